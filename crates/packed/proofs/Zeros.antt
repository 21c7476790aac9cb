-- The shortest field from the count of leading zero bits divided by eight: one law for every table. Assumes nothing.
use mathlib.Core.Path.{◌≡◌, refl, ap, ap₂, sym, ◌∙◌, subst}
use mathlib.Core.Bool.{Bool, true, false}
use mathlib.Core.List.{List, [], ◌∷◌}
use Prim.Native.Nat.{ℕ, suc, ◌+◌, ◌*◌, ◌/◌, ◌^◌, ◌≤◌, ◌<◌}
use native.Mathlib.Nat.{lt_of_lt_of_le, pow-suc}
use native.Mathlib.Omega.{arith}
use lib.Count.{count_leading_zeros, leading_length, leading_le}
use lib.Dec.{T, leb, ltb, eqb, eqb→eq}
use lib.ListN.{length, get_or}
use lib.Pow.{pow_mono}
use borrow.Author.Tests.{lt-ltb, le-ltb, leb-true, leb-false}
use Rattle.packed.specs.Format.{pick, shortest}
use Rattle.packed.specs.Group.{Shortest}
use Rattle.packed.proofs.Bytes.{byte_powers}
use Rattle.packed.proofs.Table.{both, both_left, both_right, every, at}
use Rattle.packed.proofs.Loops.{all_le, at_most}
use Rattle.packed.proofs.Widths.{top, short_width_is, shortest-field}

-- v has m binary digits and no fewer: it is below 2 ^ k exactly where m is at most k
digits_below : (v m k : ℕ) → v < 2 ^ m → m ≤ k → v < 2 ^ k
digits_below v m k h le = lt_of_lt_of_le h (pow_mono le)

digits_above : (v m k : ℕ) → 2 ^ m ≤ 2 * v + 1 → k < m → 2 ^ k ≤ v
digits_above v m k h lt = omega (arith, pow_mono lt, pow-suc 2 k)

-- v below 256 ^ j, told from the zero bytes in front of its n
pub below_by_zeros : (n v j : ℕ) → v < 256 ^ n → ltb v (256 ^ j) ≡ leb n (j + count_leading_zeros (8 * n) v / 8)
below_by_zeros n v j h = go (leb n (j + z / 8)) refl
  where
    z : ℕ
    z = count_leading_zeros (8 * n) v

    parts : (m : ℕ) × (count_leading_zeros (8 * n) v + m ≡ 8 * n) × (v < 2 ^ m) × (2 ^ m ≤ 2 * v + 1)
    parts = leading_length (8 * n) v (subst (λ (x : ℕ). v < x) (byte_powers n) h)

    go : (b : Bool) → leb n (j + z / 8) ≡ b → ltb v (256 ^ j) ≡ b
    go true e =
        lt-ltb v (256 ^ j)
        (rw byte_powers (digits_below v parts.0 (8 * j) parts.2 (omega (arith, parts.1, leb-true n (j + z / 8) e))))
    go false e =
        le-ltb v (256 ^ j)
        (rw byte_powers (digits_above v parts.0 (8 * j) parts.3 (omega (arith, parts.1, leb-false n (j + z / 8) e))))

-- the shortest field of a number of n bytes with z zero bytes in front
abbrev pub shortest_by_zeros : List ℕ → ℕ → ℕ → ℕ
shortest_by_zeros [] n z = 0
shortest_by_zeros (w ∷ ws) n z = pick (leb n (w + z)) 0 (suc (shortest_by_zeros ws n z))

pub shortest_by_zeros_lem : (t : List ℕ) (n v : ℕ) → v < 256 ^ n → shortest t v ≡ shortest_by_zeros t n (count_leading_zeros (8 * n) v / 8)
shortest_by_zeros_lem [] n v h = refl
shortest_by_zeros_lem (w ∷ ws) n v h =
    ap₂ (λ (b : Bool) (f : ℕ). pick b 0 (suc f)) (below_by_zeros n v w h) (shortest_by_zeros_lem ws n v h)

-- A coder's own formulas for field and width over the count z of zero bytes give the shortest field and its width, where they do at each of
-- the n + 1 counts, which antt computes.
abbrev pub right_at : List ℕ → ℕ → (ℕ → ℕ) → (ℕ → ℕ) → ℕ → Bool
right_at t n f w z = both (eqb (f z) (shortest_by_zeros t n z)) (eqb (w z) (get_or t (shortest_by_zeros t n z) 0))

pub formulas : (t : List ℕ) (w n : ℕ) (f l : ℕ → ℕ) → T (every (suc n) (right_at t n f l)) → length t ≡ 4 → T (all_le w t)
    → 256 ^ n ≡ top t → (v : ℕ) → v < 256 ^ n → Shortest t w v (f (count_leading_zeros (8 * n) v / 8)) (l (count_leading_zeros (8 * n) v / 8))
formulas t w n f l test four le whole v h =
    let z : ℕ = count_leading_zeros (8 * n) v / 8 in
    let s : ℕ = shortest_by_zeros t n z in
    let right : T (right_at t n f l z) = at (suc n) (right_at t n f l) test z (omega (arith, leading_le (8 * n) v)) in
    let e : shortest t v ≡ s = shortest_by_zeros_lem t n v h in
    let ef : f z ≡ shortest t v = eqb→eq (f z) s (both_left (eqb (f z) s) (eqb (l z) (get_or t s 0)) right) ∙ sym e in
    let el : l z ≡ get_or t (shortest t v) 0 =
    eqb→eq (l z) (get_or t s 0) (both_right (eqb (f z) s) (eqb (l z) (get_or t s 0)) right) ∙ ap (λ (x : ℕ). get_or t x 0) (sym e) in
    record {
      tag = ef;
      len = el ∙ sym (short_width_is t v);
      field = subst (λ (x : ℕ). x < 4) (sym ef) (shortest-field t four v (subst (λ (x : ℕ). v < x) whole h));
      width = subst (λ (x : ℕ). x ≤ w) (sym el) (at_most w t le (shortest t v));
    }
