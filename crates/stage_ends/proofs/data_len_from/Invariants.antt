use Prim.Native.Nat.{◌+◌, ◌*◌, ◌≤◌}
use lib.ListN.{length}
use Rattle.packed.specs.Column.{Measured}
use Rattle.packed.specs.Refusals.{group_limit}
use Rattle.stage_ends.proofs.data_len_from.Given as goal

abbrev pub invariant-loop-tag : goal.invariant-loop-tag
invariant-loop-tag g l = (length l.tags ≤ group_limit) × Measured g.D.CodingDescriptor.table l.tags l.from (l.from + 4 * l.fours + l.tag-index) l.len
