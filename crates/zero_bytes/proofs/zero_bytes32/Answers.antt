-- `zero_bytes32` meets its contract: the turned bytes fit 32 bits, and both ends have the same count of zero bytes.
use Rattle.std.proofs.Common.{rules}
use Prim.Native.Nat.{ℕ, ◌/◌, ◌^◌, ◌<◌}
use native.Mathlib.Omega.{arith}
use lib.Count.{count_trailing_zeros, trailing_le}
use Rattle.zero_bytes.proofs.Turned.{turned_zeros}
use Rattle.zero_bytes.proofs.zero_bytes32.Goals as goal

-- a count of zero bytes fits
few : (x : ℕ) → count_trailing_zeros 64 x / 8 < 2 ^ 64
few x = omega (arith, trailing_le 64 x)

pub overflow_cast-result-2 : goal.overflow_cast-result-2
overflow_cast-result-2 c = record { fits = few _ }

pub returns : goal.returns
returns c = turned_zeros c.args.value (search rules)
