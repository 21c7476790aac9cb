-- The zero bytes in front of a number of four, counted from the low end of its bytes in reverse order. Assumes nothing.
use mathlib.Core.Path.{◌≡◌, refl, ap, sym, ◌∙◌}
use Prim.Native.Nat.{ℕ, zero, suc, ◌+◌, ◌-◌, ◌*◌, ◌/◌, ◌%◌, ◌^◌, ◌≤◌, ◌<◌, zero-le, suc-le-suc}
use native.Mathlib.Nat.{not-suc-le-zero, mod-one, mul-mod_left, mul-pos}
use native.Mathlib.Numerals.{add-one}
use native.Mathlib.Omega.{arith}
use lib.Arith.{digits_mod}
use lib.Count.{count_leading_zeros, count_trailing_zeros, under}
use lib.Dec.{lit<}
use lib.Pow.{pow_pos, shl-shr, mod-pow-add}
use borrow.Author.Tests.{lt-ltb, le-ltb, leb-true, leb-false}
use Rattle.packed.proofs.Zeros.{below_by_zeros}

-- the lowest digit of x, and the n digits above it
lowest : (n x : ℕ) → x % 2 ^ suc n ≡ (x / 2 % 2 ^ n) * 2 + x % 2
lowest n x = rw add-one at (mod-pow-add x n 1)

-- the count at a digit d with t zeros above it: more than n where d is zero and t is n or more; at most n where, if d is zero, t is less
under_least : (d t n : ℕ) → d ≡ 0 → n ≤ t → suc n ≤ under d t
under_least zero t n e h = suc-le-suc h
under_least (suc d) t n e h = absurd (omega arith)

under_below : (d t n : ℕ) → (d ≡ 0 → t < n) → under d t < suc n
under_below zero t n h = suc-le-suc (h refl)
under_below (suc d) t n h = suc-le-suc zero-le

-- n zero digits at the low end are counted
pub trailing_least : (n k x : ℕ) → n ≤ k → x % 2 ^ n ≡ 0 → n ≤ count_trailing_zeros k x
unfolding count_trailing_zeros
trailing_least zero k x le e = zero-le
trailing_least (suc n) zero x le e = absurd (not-suc-le-zero le)
trailing_least (suc n) (suc k) x le e =
    under_least (x % 2) (count_trailing_zeros k (x / 2)) n (omega (arith, lowest n x))
    (trailing_least n k (x / 2) (omega arith) (omega (arith, lowest n x)))

-- a digit set among the n lowest ends the count
pub trailing_below : (n k x : ℕ) → 0 < x % 2 ^ n → count_trailing_zeros k x < n
unfolding count_trailing_zeros
trailing_below zero k x h = absurd (omega (arith, mod-one x))
trailing_below (suc n) zero x h = suc-le-suc zero-le
trailing_below (suc n) (suc k) x h =
    under_below (x % 2) (count_trailing_zeros k (x / 2)) n (λ e. trailing_below n k (x / 2) (omega (arith, lowest n x)))

-- z zero bytes below a byte b that is not zero
trailing_bytes : (k x q b z : ℕ) → x ≡ (q * 256 + b) * 2 ^ (8 * z) → zero < b → b < 256 → 8 * z ≤ k → count_trailing_zeros k x / 8 ≡ z
trailing_bytes k x q b z e p l le = omega (arith, trailing_least (8 * z) k x le zeros, trailing_below (8 + 8 * z) k x set)
  where
    zeros : x % 2 ^ (8 * z) ≡ 0
    zeros = ap (λ (y : ℕ). y % 2 ^ (8 * z)) e ∙ mul-mod_left (q * 256 + b) (2 ^ (8 * z))

    byte : x / 2 ^ (8 * z) % 256 ≡ b
    byte = ap (λ (y : ℕ). y % 256) (ap (λ (y : ℕ). y / 2 ^ (8 * z)) e ∙ shl-shr (q * 256 + b) (8 * z)) ∙ digits_mod q l

    set : zero < x % 2 ^ (8 + 8 * z)
    set = omega (arith, mod-pow-add x 8 (8 * z), mul-pos {m = x / 2 ^ (8 * z) % 256} (rw byte p) (pow_pos (8 * z)))

-- j bytes hold v
leading_least : (n v j : ℕ) → v < 256 ^ n → v < 256 ^ j → n ≤ j + count_leading_zeros (8 * n) v / 8
leading_least n v j h below = leb-true n (j + count_leading_zeros (8 * n) v / 8) (sym (below_by_zeros n v j h) ∙ lt-ltb v (256 ^ j) below)

-- j bytes do not hold v
leading_below : (n v j : ℕ) → v < 256 ^ n → 256 ^ j ≤ v → j + count_leading_zeros (8 * n) v / 8 < n
leading_below n v j h above = leb-false n (j + count_leading_zeros (8 * n) v / 8) (sym (below_by_zeros n v j h) ∙ le-ltb v (256 ^ j) above)

-- z zero bytes and then one that is not, in front of v and at the low end of x: both counts are z
same : (v x q b z : ℕ) → z < 4 → x ≡ (q * 256 + suc b) * 2 ^ (8 * z) → suc b < 256 → v < 256 ^ 4 → v < 256 ^ (4 - z) → 256 ^ (3 - z) ≤ v
    → count_trailing_zeros 64 x / 8 ≡ count_leading_zeros 32 v / 8
same v x q b z le e l h below above =
    omega (
      arith,
      trailing_bytes 64 x q (suc b) z e (omega arith) l (omega arith),
      leading_least 4 v (4 - z) h below,
      leading_below 4 v (3 - z) h above,
    )

-- a number of four bytes, high byte first, and the four in reverse order with a bit set behind them
abbrev straight : ℕ → ℕ → ℕ → ℕ → ℕ
straight a b c d = a * 16777216 + b * 65536 + c * 256 + d

abbrev turned : ℕ → ℕ → ℕ → ℕ → ℕ
turned a b c d = d * 16777216 + c * 65536 + b * 256 + a + 4294967296

-- where all four are zero, both counts are 4
none : count_trailing_zeros 64 (turned 0 0 0 0) / 8 ≡ count_leading_zeros 32 (straight 0 0 0 0) / 8
unfolding count_trailing_zeros count_leading_zeros
none = refl

-- both counts, by the first byte that is not zero
counts : (a b c d : ℕ) → a < 256 → b < 256 → c < 256 → d < 256
    → count_trailing_zeros 64 (turned a b c d) / 8 ≡ count_leading_zeros 32 (straight a b c d) / 8
counts (suc a) b c d la lb lc ld =
    same _ _ (d * 65536 + c * 256 + b + 16777216) a 0 (lit< tt) (omega arith) la (omega arith) (omega arith) (omega arith)
counts zero (suc b) c d la lb lc ld = same _ _ (d * 256 + c + 65536) b 1 (lit< tt) (omega arith) lb (omega arith) (omega arith) (omega arith)
counts zero zero (suc c) d la lb lc ld = same _ _ (d + 256) c 2 (lit< tt) (omega arith) lc (omega arith) (omega arith) (omega arith)
counts zero zero zero (suc d) la lb lc ld = same _ _ 1 d 3 (lit< tt) (omega arith) ld (omega arith) (omega arith) (omega arith)
counts zero zero zero zero la lb lc ld = none

-- the same of the bytes of v
pub turned_zeros : (v : ℕ) → v < 256 ^ 4
    → count_trailing_zeros 64 (turned (v / 16777216) (v / 65536 % 256) (v / 256 % 256) (v % 256)) / 8 ≡ count_leading_zeros 32 v / 8
turned_zeros v h =
    counts (v / 16777216) (v / 65536 % 256) (v / 256 % 256) (v % 256) (omega arith) (omega arith) (omega arith) (omega arith)
    ∙ ap (λ (n : ℕ). count_leading_zeros 32 n / 8) (omega arith)
