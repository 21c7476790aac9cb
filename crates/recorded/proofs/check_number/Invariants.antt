-- The number stays below the modulus.
use Rattle.std.proofs.Common.{◌<◌}
use Rattle.recorded.proofs.check_number.Given as goal

abbrev pub invariant-loop-byte : goal.invariant-loop-byte
invariant-loop-byte l = l.number < 4294967291
