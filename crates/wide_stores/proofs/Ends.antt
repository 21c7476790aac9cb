-- Laws of the search for the end of a run by whole words, over the width table t: from behind, until the groups passed have n bytes. Assumes
-- nothing.
use mathlib.Core.Path.{◌≡◌, refl, ap, sym, ◌∙◌, subst}
use mathlib.Core.Bool.{Bool}
use mathlib.Core.List.{List, [], ◌∷◌, ◌++◌, map}
use Prim.Native.Nat.{ℕ, zero, suc, ◌+◌, ◌-◌, ◌*◌, ◌^◌, ◌≤◌, ◌<◌, zero-le}
use native.Mathlib.Omega.{arith}
use lib.ListN.{length, take, drop, get_or, length-append}
use lib.Seq.{sets, drop-drop}
use borrow.Author.Tests.{lt-ltb}
use Rattle.packed.specs.Format.{pick, total, widths, shortest, short_width, tag_of, bytes_of, steps}
use Rattle.packed.specs.Group.{Encodes}
use Rattle.packed.specs.Stages.{widest_group}
use Rattle.packed.specs.Column.{RunsEncode}
use Rattle.packed.proofs.Bytes.{Below, byte_power_pos}
use Rattle.packed.proofs.Deltas.{last_of}
use Rattle.packed.proofs.Encodes.{steps-drop}
use Rattle.packed.proofs.Ends.{Table, at_least}
use Rattle.packed.proofs.Fours.{four_of, four_is}
use Rattle.packed.proofs.Widths.{top, widths_of_tag, short_width_is, short_width_holds, shortest-field, bytes_length}
use Rattle.wide_stores.specs.Wide.{excess, RunsWide, Covers}
use Rattle.wide_stores.proofs.Columns.{excess_covered, bytes_join, behind, back_behind, wide_then_rest}

-- the widths of a group's tag are all its bytes
pub tag_total : (t group : List ℕ) → length t ≡ 4 → length group ≡ 4 → Below (top t) group → total (widths t (tag_of t group)) ≡ length (bytes_of t group)
tag_total t group is four h =
    let same : group ≡ four_of group = four_is group four in
    let below : Below (top t) (four_of group) = subst (Below (top t)) same h in
    let all : total (widths t (tag_of t (four_of group))) ≡ length (bytes_of t (four_of group)) =
    ap total (widths_of_tag t is (get_or group 0 0) (get_or group 1 0) (get_or group 2 0) (get_or group 3 0) below) ∙ sym (bytes_length t is (four_of group)) in
    subst (λ (l : List ℕ). total (widths t (tag_of t l)) ≡ length (bytes_of t l)) (sym same) all

-- no number is narrower than the narrowest width
pub width_least : (t : List ℕ) → Table t → (v : ℕ) → v < top t → get_or t 0 0 ≤ short_width t v
width_least t is v h =
    let least : get_or t 0 0 ≤ get_or t (shortest t v) 0 = at_least (get_or t 0 0) t is.first (shortest t v) (omega (arith, shortest-field t is.four v h, is.four)) in
    omega (arith, short_width_is t v)

-- a number that is not 0 has a byte or more
pub some_width : (t : List ℕ) → length t ≡ 4 → (v : ℕ) → v < top t → 0 < v → 1 ≤ short_width t v
some_width t four v h pos = go (short_width t v) (short_width_holds t four v h)
  where
    go : (w : ℕ) → v < 256 ^ w → 1 ≤ w
    go zero hw = absurd (omega arith)
    go (suc w) hw = omega arith

-- so it has as many as the number is, and no more than one
pub some_least : (t : List ℕ) → length t ≡ 4 → (v len : ℕ) → v < top t → len ≤ v → len ≤ 1 → len ≤ short_width t v
some_least t four v zero h hv one = zero-le
some_least t four v (suc len) h hv one = omega (arith, some_width t four v h (omega arith))

-- the bytes of four numbers, of each of which so many are there
pub four_least : (t group : List ℕ) (l₀ l₁ l₂ l₃ : ℕ) → length t ≡ 4 → length group ≡ 4
    → l₀ ≤ short_width t (get_or group 0 0) → l₁ ≤ short_width t (get_or group 1 0) → l₂ ≤ short_width t (get_or group 2 0) → l₃ ≤ short_width t (get_or group 3 0)
    → l₀ + l₁ + l₂ + l₃ ≤ length (bytes_of t group)
four_least t group l₀ l₁ l₂ l₃ is four h₀ h₁ h₂ h₃ =
    let all : length (bytes_of t (four_of group)) ≡ total (map (short_width t) (four_of group)) = bytes_length t is (four_of group) in
    let same : length (bytes_of t (four_of group)) ≡ length (bytes_of t group) = ap (λ (l : List ℕ). length (bytes_of t l)) (sym (four_is group four)) in
    omega arith

-- zeros have the first field
zero_first : (t : List ℕ) → shortest t 0 ≡ 0
zero_first [] = refl
zero_first (w ∷ ws) = ap (λ (b : Bool). pick b 0 (suc (shortest ws 0))) (lt-ltb 0 (256 ^ w) (byte_power_pos w))

pub zeros_tag : (t group : List ℕ) → group ≡ 0 ∷ 0 ∷ 0 ∷ 0 ∷ [] → 0 ≡ tag_of t group
zeros_tag t group e = rw (e, zero_first t) refl

-- a group of no bytes leaves all as it was
pub none_written : (t group l : List ℕ) (at tag len : ℕ) → tag ≡ tag_of t group → len ≡ length (bytes_of t group) → len ≡ 0 → Encodes t group l at tag 0 l
none_written t group l at tag len et el e = go (bytes_of t group) refl
  where
    go : (bytes : List ℕ) → bytes_of t group ≡ bytes → Encodes t group l at tag 0 l
    go [] eb = record { tag = et; written = ap length (sym eb); output = ap (sets l at) (sym eb) }
    go (b ∷ bytes) eb = absurd (omega (arith, ap length eb))

module _ (t ds : List ℕ) (n groups : ℕ) where
  -- of n bytes, the groups from `front` on have all but so many
  pub record Covering (front uncovered : ℕ) : Type 0 where
    pub inside : front ≤ groups
    pub there : n ≤ uncovered + length (bytes_of t (take (4 * (groups - front)) (drop (4 * front) ds)))

  pub covering_next : {front uncovered : ℕ} (back len left : ℕ) (group : List ℕ) → Covering front uncovered → front ≡ back + 1
      → group ≡ take 4 (drop (4 * back) ds) → len ≤ length (bytes_of t group) → left ≡ uncovered - len → Covering back left
  covering_next {front} {uncovered} back len left group s e eg el ev =
      let l : List ℕ = drop (4 * back) ds in
      let more : groups - back ≡ 1 + (groups - front) = omega (arith, s.inside) in
      let place : 4 * back + 4 ≡ 4 * front = omega arith in
      let later : drop 4 l ≡ drop (4 * front) ds = drop-drop 4 (4 * back) ds ∙ ap (λ (k : ℕ). drop k ds) place in
      let rest : List ℕ = bytes_of t (take (4 * (groups - front)) (drop (4 * front) ds)) in
      let all : bytes_of t (take (4 * (groups - back)) l) ≡ bytes_of t group ++ rest =
      ap (λ (k : ℕ). bytes_of t (take (4 * k) l)) more ∙ bytes_join t 1 (groups - front) l
      ∙ ap (λ (x : List ℕ). bytes_of t (take 4 l) ++ bytes_of t (take (4 * (groups - front)) x)) later
      ∙ ap (λ (x : List ℕ). bytes_of t x ++ rest) (sym eg) in
      record {
        inside = omega (arith, s.inside);
        there = omega (arith, ap length all, length-append (bytes_of t group) rest, s.there);
      }

  pub covering_found : {front uncovered : ℕ} → Covering front uncovered → uncovered ≡ 0 → Covers t n ds groups front
  covering_found {front} s e = record {
    inside = s.inside;
    covered = excess_covered n front _ (λ some. omega (arith, s.there));
  }

-- the one before the place `at`, from p on
last_before : (p at : ℕ) (vs : List ℕ) → at < length vs → last_of p (take (suc at) vs) ≡ get_or vs at 0
last_before p at [] h = absurd (omega arith)
last_before p zero (v ∷ vs) h = refl
last_before p (suc at) (v ∷ vs) h = last_before v at vs (omega arith)

pub steps_from : (m p at : ℕ) (vs : List ℕ) → 0 < at → at ≤ length vs → steps m (get_or vs (at - 1) 0) (drop at vs) ≡ drop at (steps m p vs)
steps_from m p zero vs pos h = absurd (omega arith)
steps_from m p (suc at) vs pos h =
    let place : suc at - 1 ≡ at = omega arith in
    ap (λ (k : ℕ). steps m (get_or vs k 0) (drop (suc at) vs)) place ∙ ap (λ (k : ℕ). steps m k (drop (suc at) vs)) (sym (last_before p at vs (omega arith)))
    ∙ sym (steps-drop m p (suc at) vs)

-- the first groups by whole words and the rest exactly, with the end that was found
pub wide_then_covered : (t : List ℕ) (is : Table t) {n : ℕ} {ds tags bytes tags₁ bytes₁ : List ℕ} {front written : ℕ} (to written₂ : ℕ) (ds₂ tags₂ bytes₂ : List ℕ)
    → Covers t n ds to front → to ≤ length tags → widest_group t * to ≤ length bytes → RunsWide t n ds tags bytes front written tags₁ bytes₁
    → ds₂ ≡ drop (4 * front) ds → RunsEncode t ds₂ (behind front tags₁) (behind written bytes₁) (to - front) written₂ tags₂ bytes₂
    → RunsEncode t ds tags bytes to (written + written₂) (back_behind front tags₁ tags₂) (back_behind written bytes₁ bytes₂)
wide_then_covered t is {n} {ds} {tags} {bytes} {tags₁} {bytes₁} {front} {written} to written₂ ds₂ tags₂ bytes₂ c ht hb f e s =
    let all : written₂ ≡ length (bytes_of t (take (4 * (to - front)) (drop (4 * front) ds))) =
    s.written ∙ ap (λ (l : List ℕ). length (bytes_of t (take (4 * (to - front)) l))) e in
    wide_then_rest t is to written₂ ds₂ tags₂ bytes₂ c.inside ht hb f e s (subst (λ (k : ℕ). excess n front ≤ k) (sym all) c.covered)
