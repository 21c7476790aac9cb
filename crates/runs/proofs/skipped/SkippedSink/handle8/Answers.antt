-- The sum of the group is added.
use Rattle.packed.proofs.Sinks.{sums_one}
use Rattle.runs.proofs.skipped.SkippedSink.handle8.Goals as goal

pub returns-clause-took : goal.returns-clause-took
returns-clause-took g c = sums_one _ _ _ _ _ _ _ c.skip_deltas-len.ensures.sum c.wrapping_add.ensures
