use Rattle.std.proofs.Common.{◌*◌}
use Rattle.packed.proofs.Ends.{AtEights}
use Rattle.stage_ends.proofs.eights_end.Given as goal

abbrev pub invariant-loop-k : goal.invariant-loop-k
invariant-loop-k g l = AtEights g.D.CodingDescriptor.table g.met.D.CodingDescriptor.is_table l.tags l.«data» (8 * l.k) l.read
