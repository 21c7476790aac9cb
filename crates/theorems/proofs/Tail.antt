-- The tail never takes more than was copied to it, where the data are enough: row 7 never applies behind row 6. Assumes nothing.
use mathlib.Core.Path.{◌≡◌, refl, ap, sym, ◌∙◌}
use mathlib.Core.Bool.{false}
use mathlib.Core.List.{List, [], ◌∷◌}
use Prim.Native.Nat.{ℕ, ◌+◌, ◌-◌, ◌≤◌, zero-le}
use native.Mathlib.Omega.{arith}
use lib.ListN.{take, drop, take-append-drop}
use Rattle.packed.specs.Format.{data_len}
use Rattle.packed.specs.Refusals.{Lent, applies, tail_overrun}
use Rattle.packed.specs.Stages.{staged, where_any, tail_takes, tail_copied}
use Rattle.packed.proofs.Numbers.{data_len-append}
use Rattle.packed.proofs.Rows.{tail_overrun_no}

nothing : (t : List ℕ) → data_len t [] ≡ 0
unfolding data_len
nothing t = refl

split : (t tags : List ℕ) (n left : ℕ) → data_len t tags ≤ left → data_len t (drop n tags) ≤ left - data_len t (take n tags)
split t tags n left h =
    let e : data_len t tags ≡ data_len t (take n tags) + data_len t (drop n tags) =
    ap (data_len t) (sym (take-append-drop n tags)) ∙ data_len-append t (take n tags) (drop n tags) in
    omega arith

copied : (t rest : List ℕ) (n : ℕ) → data_len t rest ≤ n → data_len t rest ≤ where_any rest n
copied t [] n h = rw (nothing t) zero-le
copied t (tag ∷ rest) n h = h

pub tail_fits : (t tags : List ℕ) (left : ℕ) → data_len t tags ≤ left → tail_takes t tags left ≤ tail_copied t tags left
unfolding tail_takes tail_copied
tail_fits t tags left h = copied t (drop (staged t tags left) tags) _ (split t tags (staged t tags left) left h)

pub never_overrun : (t : List ℕ) (l : Lent) → data_len t l.tags ≤ l.bytes → applies t l tail_overrun ≡ false
never_overrun t l h = tail_overrun_no t l (tail_fits t l.tags l.bytes h)
