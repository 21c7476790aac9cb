-- `byte` meets its contract: eight bits are a byte.
use Rattle.std.proofs.Common.{◌≡◌, ◌%◌, rules}
use native.Mathlib.Nat.{mod-eq_of_lt}
use Rattle.packed.specs.Format.{m64}
use Rattle.packed.proofs.Bytes.{byte_powers}
use Rattle.elem.proofs.elem64.U64Elem.byte.Goals as goal

pub returns : goal.returns
returns c = let same : c.args.self % m64 ≡ c.args.self = mod-eq_of_lt (search rules) in rw (same, byte_powers c.args.i)
