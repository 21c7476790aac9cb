-- `chowder_tightness_1248` hands on what `coder::tightness` promises: a position is one of four.
use Rattle.packed.specs.Format.{t1248}
use Rattle.chowderyard.proofs.Boundary.{small}
use Rattle.chowderyard.proofs.calls1248.chowder_tightness_1248.Goals as goal

pub of_tightness-requires : goal.of_tightness-requires
of_tightness-requires c = small t1248 _ _ c.tightness.ensures
