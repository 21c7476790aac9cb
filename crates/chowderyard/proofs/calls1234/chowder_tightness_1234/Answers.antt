-- `chowder_tightness_1234` hands on what `coder::tightness` promises: a position is one of four.
use Rattle.packed.specs.Format.{t1234}
use Rattle.chowderyard.proofs.Boundary.{small}
use Rattle.chowderyard.proofs.calls1234.chowder_tightness_1234.Goals as goal

pub of_tightness-requires : goal.of_tightness-requires
of_tightness-requires c = small t1234 _ _ c.tightness.ensures
