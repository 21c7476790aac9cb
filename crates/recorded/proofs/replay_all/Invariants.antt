-- Each of the lines adds at most 4294967295 to each count.
use Rattle.std.proofs.Common.{◌+◌, ◌*◌, ◌≤◌}
use Rattle.recorded.proofs.replay_all.Given as goal

abbrev pub invariant-loop-coder : goal.invariant-loop-coder
invariant-loop-coder g l = (l.found ≤ 25769803770 * l.coder-index) × (l.differ ≤ 25769803770 * l.coder-index)

abbrev pub invariant-loop-call : goal.invariant-loop-call
invariant-loop-call g l =
    (l.found ≤ 25769803770 * l.coder-index + 4294967295 * l.call-index)
    × (l.differ ≤ 25769803770 * l.coder-index + 4294967295 * l.call-index)
