-- The bytes of four tags put together, over the width table t: where a function f of a tag's byte has halves whose sum is the tag's length
-- but for c, which a test at each tag shows, f of four bytes side by side has the four lengths. Assumes nothing.
use mathlib.Core.Path.{◌≡◌, ap, sym, subst}
use mathlib.Core.Bool.{Bool}
use mathlib.Core.List.{List}
use Prim.Native.Nat.{ℕ, ◌+◌, ◌*◌, ◌/◌, ◌%◌, ◌≤◌, ◌<◌, zero-le}
use native.Mathlib.Nat.{add-zero}
use native.Mathlib.Omega.{arith}
use lib.Dec.{T, ltb, eqb, ltb→lt, eqb→eq}
use lib.ListN.{length, take, drop, get_or}
use Rattle.packed.specs.Format.{field, widths, total, le_value}
use Rattle.packed.specs.Column.{Measured}
use Rattle.packed.specs.Refusals.{group_limit}
use Rattle.packed.proofs.Bytes.{Below, le_value_head, le_value_next}
use Rattle.packed.proofs.Ends.{Table, measured_here, measured_one, measured_step, measured_join}
use Rattle.packed.proofs.Table.{both, both_left, both_right, every, at}
use Rattle.tag_words.specs.Words.{word, Bytewise, halves_of, SumsHalves, lengths4}

unfoldable pub right : List ℕ → (ℕ → ℕ) → ℕ → ℕ → Bool
unfolding widths field
right t f c tag = both (ltb (f tag) 256) (eqb (halves_of (f tag) + c) (total (widths t tag)))

module _ (t : List ℕ) (f : ℕ → ℕ) (c : ℕ) (test : T (every 256 (right t f c))) where
  pub small : (tag : ℕ) → tag < 256 → f tag < 256
  unfolding right
  small tag h =
      ltb→lt (f tag) 256 (both_left (ltb (f tag) 256) (eqb (halves_of (f tag) + c) (total (widths t tag))) (at 256 (right t f c) test tag h))

  len : (tag : ℕ) → tag < 256 → halves_of (f tag) + c ≡ total (widths t tag)
  unfolding right
  len tag h =
      eqb→eq (halves_of (f tag) + c) (total (widths t tag)) (both_right (ltb (f tag) 256) (eqb (halves_of (f tag) + c) (total (widths t tag))) (at 256 (right t f c) test tag h))

  -- of the four that stand in a number
  pub four_lengths : (x y r : ℕ) → x < 4294967296 → Bytewise f x y → SumsHalves y r → r + 4 * c ≡ lengths4 t x
  four_lengths x y r fits p q =
      let j : ℕ = x % 256 in
      let k : ℕ = x / 256 % 256 in
      let l : ℕ = x / 65536 % 256 in
      let m : ℕ = x / 16777216 in
      let hj : j < 256 = omega arith in
      let hk : k < 256 = omega arith in
      let hl : l < 256 = omega arith in
      let hm : m < 256 = omega arith in
      let side : y ≡ word (f j) (f k) (f l) (f m) = p j k l m hj hk hl hm (omega arith) in
      omega (arith, q (f j) (f k) (f l) (f m) (small j hj) (small k hk) (small l hl) (small m hm) side, len j hj, len k hk, len l hl, len m hm)

put : (tags : List ℕ) (i x : ℕ) → i + 4 ≤ length tags → x ≡ le_value (take 4 (drop i tags))
    → x ≡ word (get_or tags i 0) (get_or tags (i + 1) 0) (get_or tags (i + 2) 0) (get_or tags (i + 3) 0)
put tags i x h e =
    omega (
      arith,
      e,
      le_value_head 3 i tags (omega arith),
      le_value_next 2 i 1 tags (omega arith),
      le_value_next 1 i 2 tags (omega arith),
      le_value_next 0 i 3 tags (omega arith),
    )

module _ (t : List ℕ) (is : Table t) where
  same : (a b : ℕ) → a ≡ b → total (widths t a) ≡ total (widths t b)
  same a b e = ap (λ (n : ℕ). total (widths t n)) e

  -- the four tags that are put together are those that were read
  pub four_measured : (tags : List ℕ) (i x r : ℕ) → Below 256 tags → i + 4 ≤ length tags → x ≡ le_value (take 4 (drop i tags)) → r ≡ lengths4 t x
      → Measured t tags i (i + 4) r
  four_measured tags i x r below h e er =
      let j : ℕ = get_or tags i 0 in
      let k : ℕ = get_or tags (i + 1) 0 in
      let l : ℕ = get_or tags (i + 2) 0 in
      let m : ℕ = get_or tags (i + 3) 0 in
      let hj = below i in
      let hk = below (i + 1) in
      let hl = below (i + 2) in
      let whole : x ≡ word j k l m = put tags i x h e in
      subst (Measured t tags i (i + 4)) (sym er)
      (measured_step t is i 3 _
      (measured_step t is i 2 _
      (measured_step t is i 1 _
      (measured_one t is tags i _ (omega arith) (same (x % 256) j (omega arith)))
      (omega arith) (same (x / 256 % 256) k (omega arith)))
      (omega arith) (same (x / 65536 % 256) l (omega arith)))
      (omega arith) (same (x / 16777216) m (omega arith)))

-- so of four tags that are put together f has their length
module _ (t : List ℕ) (is : Table t) (f : ℕ → ℕ) (c : ℕ) (test : T (every 256 (right t f c))) where
  pub four_within : (tags : List ℕ) (i x y r : ℕ) → Below 256 tags → i + 4 ≤ length tags → x ≡ le_value (take 4 (drop i tags)) → Bytewise f x y
      → SumsHalves y r → Measured t tags i (i + 4) (r + 4 * c)
  four_within tags i x y r below h e p q =
      let fits : x < 4294967296 = omega (arith, put tags i x h e, below i, below (i + 1), below (i + 2), below (i + 3)) in
      four_measured t is tags i x (r + 4 * c) below h e (four_lengths t f c test x y r fits p q)

-- A run of so many fours from a tag on: k of them are measured.
module _ (t : List ℕ) (is : Table t) where
  pub record ByFours (tags : List ℕ) (from fours k len : ℕ) : Type 0 where
    pub inside : from + 4 * fours ≤ length tags
    pub limit : length tags ≤ group_limit
    pub some : k ≤ fours
    pub measured : Measured t tags from (from + 4 * k) len

  pub by_fours_start : (tags : List ℕ) (from fours : ℕ) → from + 4 * fours ≤ length tags → length tags ≤ group_limit → ByFours tags from fours 0 0
  by_fours_start tags from fours h limit = record {
    inside = h;
    limit = limit;
    some = zero-le;
    measured = subst (λ (n : ℕ). Measured t tags from n 0) (sym (add-zero from)) (measured_here t is tags from (omega arith));
  }

  pub by_fours_next : {tags : List ℕ} {from fours k len more : ℕ} → ByFours tags from fours k len → k < fours
      → Measured t tags (from + 4 * k) (from + 4 * k + 4) more → ByFours tags from fours (k + 1) (len + more)
  by_fours_next {tags} {from} {fours} {k} {len} {more} b h m =
      let e : from + 4 * k + 4 ≡ from + 4 * (k + 1) = omega arith in
      record {
        inside = b.inside;
        limit = b.limit;
        some = omega (arith, h);
        measured = subst (λ (n : ℕ). Measured t tags from n (len + more)) e (measured_join t is b.measured m);
      }
