-- Each record adds at most 1 to each count.
use Rattle.std.proofs.Common.{◌≤◌}
use Rattle.recorded.proofs.replay.Given as goal

abbrev pub invariant-loop-k : goal.invariant-loop-k
invariant-loop-k g l = (l.found ≤ l.k-counter) × (l.differ ≤ l.k-counter)
