use Rattle.packed.proofs.Ends.{AtSingles}
use Rattle.stage_ends.proofs.singles_end.Given as goal

abbrev pub invariant-loop-i : goal.invariant-loop-i
invariant-loop-i g l = AtSingles g.D.CodingDescriptor.table g.met.D.CodingDescriptor.is_table l.tags l.«data» l.initial.i l.initial.read l.i l.read
