use Rattle.packed.proofs.Tight.{AtGroup, AtNumber}
use Rattle.tightness.proofs.first_loose.Given as goal

abbrev pub invariant-loop-position : goal.invariant-loop-position
invariant-loop-position g l = AtNumber g.D.CodingDescriptor.table l.tags l.«data» l.group l.position l.rest l.at

abbrev pub invariant-loop-group : goal.invariant-loop-group
invariant-loop-group g l = AtGroup g.D.CodingDescriptor.table l.tags l.«data» l.group l.at
