-- `front_end` meets its contract: the fours of its eights, or none.
use Rattle.std.proofs.Common.{refl}
use Prim.Native.Nat.{zero-le}
use Rattle.packed.proofs.Ends.{measured_here}
use Rattle.stage_ends.proofs.front_end.Goals as goal

pub returns-then-read-slack-clause-measured : goal.returns-then-read-slack-clause-measured
returns-then-read-slack-clause-measured g c = (measured_here g.D.CodingDescriptor.table g.met.D.CodingDescriptor.is_table _ 0 zero-le, refl)
