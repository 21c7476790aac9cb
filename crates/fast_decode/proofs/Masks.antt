-- The masks of a tag as elements of w bytes: each is below the modulus, so it is its own number. Assumes nothing.
use mathlib.Core.Path.{◌≡◌, ap, ◌∙◌}
use mathlib.Core.List.{List, map}
use Prim.Native.Nat.{ℕ, ◌-◌, ◌%◌, ◌^◌, ◌≤◌, ◌<◌}
use native.Mathlib.Nat.{mod-eq_of_lt, pow-le-pow_right}
use native.Mathlib.Omega.{arith}
use lib.Dec.{T}
use lib.ListN.{get_or}
use Rattle.packed.specs.Format.{field, widths}
use Rattle.packed.proofs.Bytes.{byte_power_pos}
use Rattle.packed.proofs.Loops.{all_le, at_most}
use Rattle.tag_utils.specs.Tables.{masks}

-- one mask of a width up to w
own : (w n : ℕ) → n ≤ w → (256 ^ n - 1) % 256 ^ w ≡ 256 ^ n - 1
own w n h = let pos : 0 < 256 ^ n = byte_power_pos n in let most : 256 ^ n ≤ 256 ^ w = pow-le-pow_right (byte_power_pos 1) h in mod-eq_of_lt (omega arith)

pub elements : (t : List ℕ) (w tag : ℕ) (ms : List ℕ) → T (all_le w t) → ms ≡ masks (widths t tag)
    → map (λ (x : ℕ). x % 256 ^ w) ms ≡ masks (widths t tag)
unfolding widths
elements t w tag ms fit e =
    let most : (f : ℕ) → get_or t f 0 ≤ w = at_most w t fit in
    ap (map (λ (x : ℕ). x % 256 ^ w)) e
    ∙ rw (own w _ (most (field tag 0)), own w _ (most (field tag 1)), own w _ (most (field tag 2)), own w _ (most (field tag 3)))
