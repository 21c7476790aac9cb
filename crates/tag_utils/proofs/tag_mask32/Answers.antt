-- `tag_utils::tag_mask32` meets its contract: by the law of a shifted one, at 4 bytes.
use mathlib.Core.Path.{ap, sym}
use Prim.Native.Nat.{ℕ, ◌-◌, ◌^◌}
use native.Mathlib.Omega.{arith}
use Rattle.packed.proofs.Bytes.{shifted_one, byte_power_pos}
use Rattle.tag_utils.proofs.tag_mask32.Goals as goal

pub overflow_sub-result : goal.overflow_sub-result
overflow_sub-result c =
    let len : ℕ = c.args.len in
    omega (arith, shifted_one len 4 (omega arith), byte_power_pos len)

pub returns-then-len-eq4 : goal.returns-then-len-eq4
returns-then-len-eq4 c = ap (λ (w : ℕ). 256 ^ w - 1) (sym c.if-len-eq4.true)

pub returns-else-len-eq4 : goal.returns-else-len-eq4
returns-else-len-eq4 c = ap (λ (x : ℕ). x - 1) (shifted_one c.args.len 4 (omega arith))
