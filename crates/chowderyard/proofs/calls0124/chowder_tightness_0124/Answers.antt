-- `chowder_tightness_0124` hands on what `coder::tightness` promises: a position is one of four.
use Rattle.packed.specs.Format.{t0124}
use Rattle.chowderyard.proofs.Boundary.{small}
use Rattle.chowderyard.proofs.calls0124.chowder_tightness_0124.Goals as goal

pub of_tightness-requires : goal.of_tightness-requires
of_tightness-requires c = small t0124 _ _ c.tightness.ensures
