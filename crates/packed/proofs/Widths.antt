-- Laws of fields and widths: what the shortest field is, a group's tag and its widths, and that decoding gives back what was encoded.
-- Assumes nothing.
use mathlib.Core.Path.{◌≡◌, refl, ap, ap₂, sym, ◌∙◌, subst}
use mathlib.Core.Bool.{Bool, true, false}
use mathlib.Core.List.{List, [], ◌∷◌, ◌++◌, map, append_assoc}
use Prim.Native.Nat.{ℕ, zero, suc, ◌+◌, ◌*◌, ◌/◌, ◌%◌, ◌^◌, ◌≤◌, ◌<◌, zero-le, suc-le-suc}
use native.Mathlib.Nat.{mul_comm, pow-suc, not-suc-le-zero, le_of_suc-le-suc, not-le_of_lt, mod-eq_of_lt, div-one, div-div-eq-div-mul, add-mul-mod_self_left}
use native.Mathlib.Omega.{arith}
use lib.Dec.{ltb, lit<}
use lib.ListN.{length, drop, get_or, length-append}
use lib.Seq.{take_at, drop_at}
use borrow.Author.Tests.{ltb-true, ltb-false}
use Rattle.packed.specs.Format.{pick, field, widths, total, numbers, le_bytes, shortest, short_width, tag_of, bytes_of}
use Rattle.packed.proofs.Bytes.{Below, le_bytes-length, le_value-le_bytes_fits}

-- ---- the shortest field

-- no field before it holds the number
first_step : (v w j n : ℕ) (ws : List ℕ) (b : Bool) → ltb v (256 ^ w) ≡ b → v < 256 ^ get_or (w ∷ ws) j 0
    → ((i : ℕ) → v < 256 ^ get_or ws i 0 → suc i ≡ j → n ≤ i) → pick b 0 (suc n) ≤ j
first_step v w j n ws true e hv ih = zero-le
first_step v w zero n ws false e hv ih = absurd (not-le_of_lt hv (ltb-false v (256 ^ w) e))
first_step v w (suc j) n ws false e hv ih = suc-le-suc (ih j hv refl)

pub shortest_first : (t : List ℕ) (v j : ℕ) → j < length t → v < 256 ^ get_or t j 0 → shortest t v ≤ j
shortest_first [] v j h hv = zero-le
shortest_first (w ∷ ws) v j h hv =
    first_step v w j (shortest ws v) ws (ltb v (256 ^ w)) refl hv
    (λ i hi e. shortest_first ws v i (le_of_suc-le-suc (subst (λ (k : ℕ). k < length (w ∷ ws)) (sym e) h)) hi)

-- and it holds the number, where one of the table's does
holds_step : (v w n : ℕ) (ws : List ℕ) (b : Bool) → ltb v (256 ^ w) ≡ b → pick b 0 (suc n) < length (w ∷ ws)
    → (n < length ws → v < 256 ^ get_or ws n 0) → v < 256 ^ get_or (w ∷ ws) (pick b 0 (suc n)) 0
holds_step v w n ws true e h ih = ltb-true v (256 ^ w) e
holds_step v w n ws false e h ih = ih (le_of_suc-le-suc h)

pub shortest_holds : (t : List ℕ) (v : ℕ) → shortest t v < length t → v < 256 ^ get_or t (shortest t v) 0
shortest_holds [] v h = absurd (not-suc-le-zero h)
shortest_holds (w ∷ ws) v h = holds_step v w (shortest ws v) ws (ltb v (256 ^ w)) refl h (shortest_holds ws v)

-- what the widest field holds lies below this
abbrev pub top : List ℕ → ℕ
top t = 256 ^ get_or t 3 0

pub short_width_is : (t : List ℕ) (v : ℕ) → short_width t v ≡ get_or t (shortest t v) 0
unfolding short_width
short_width_is t v = refl

-- ---- a tag's widths, one after the other

-- the field at i of what is left after i fields
pub widths_next : (t : List ℕ) (tag i : ℕ) → i < 4
    → drop i (widths t tag) ≡ get_or t (tag / 4 ^ i % 4) 0 ∷ drop (suc i) (widths t tag)
unfolding widths field
widths_next t tag zero h = refl
widths_next t tag (suc zero) h = refl
widths_next t tag (suc (suc zero)) h = refl
widths_next t tag (suc (suc (suc zero))) h = refl
widths_next t tag (suc (suc (suc (suc i)))) h = absurd (omega arith)

pub widths_done : (t : List ℕ) (tag : ℕ) → drop 4 (widths t tag) ≡ []
unfolding widths
widths_done t tag = refl

pub widths-length : (t : List ℕ) (tag : ℕ) → length (widths t tag) ≡ 4
unfolding widths
widths-length t tag = refl

pub rest_next : (tag i : ℕ) → tag / 4 ^ i / 4 ≡ tag / 4 ^ suc i
rest_next tag i = div-div-eq-div-mul tag (4 ^ i) 4 ∙ ap (λ (n : ℕ). tag / n) (sym (pow-suc 4 i))

-- a group is no wider than four of the widest
pub widths_most : (w tag : ℕ) (t : List ℕ) → ((f : ℕ) → get_or t f 0 ≤ w) → total (widths t tag) ≤ 4 * w
unfolding widths
widths_most w tag t h =
    omega (arith, h (field tag 0), h (field tag 1), h (field tag 2), h (field tag 3))

-- ---- the tag of four numbers

-- the low field, and the rest
low_field : (f n : ℕ) → f < 4 → field (f + 4 * n) 0 ≡ f
unfolding field
low_field f n h = ap (λ (x : ℕ). x % 4) (div-one (f + 4 * n)) ∙ add-mul-mod_self_left f 4 n ∙ mod-eq_of_lt h

high_fields : (f n i : ℕ) → f < 4 → field (f + 4 * n) (suc i) ≡ field n i
unfolding field
high_fields f n i h =
    let down : (f + 4 * n) / 4 ≡ n = omega arith in
    ap (λ (x : ℕ). (f + 4 * n) / x % 4) (pow-suc 4 i ∙ mul_comm (4 ^ i) 4)
    ∙ ap (λ (x : ℕ). x % 4) (sym (div-div-eq-div-mul (f + 4 * n) 4 (4 ^ i)))
    ∙ ap (λ (x : ℕ). x / 4 ^ i % 4) down

module _ (t : List ℕ) (four : length t ≡ 4) where
  pub shortest-field : (v : ℕ) → v < top t → shortest t v < 4
  shortest-field v h = omega (arith, shortest_first t v 3 (omega arith) h)

  pub short_width_holds : (v : ℕ) → v < top t → v < 256 ^ short_width t v
  unfolding short_width
  short_width_holds v h = shortest_holds t v (omega (arith, shortest-field v h))

  pub tag_field : (vs : List ℕ) (i : ℕ) → i < length vs → Below (top t) vs → field (tag_of t vs) i ≡ shortest t (get_or vs i 0)
  tag_field [] i h b = absurd (not-suc-le-zero h)
  tag_field (v ∷ vs) zero h b = low_field (shortest t v) (tag_of t vs) (shortest-field v (b 0))
  tag_field (v ∷ vs) (suc i) h b =
      high_fields (shortest t v) (tag_of t vs) i (shortest-field v (b 0)) ∙ tag_field vs i (le_of_suc-le-suc h) (λ k. b (suc k))

  -- a group's tag has the group's shortest widths
  pub widths_of_tag : (a b c d : ℕ) → Below (top t) (a ∷ b ∷ c ∷ d ∷ [])
      → widths t (tag_of t (a ∷ b ∷ c ∷ d ∷ [])) ≡ map (short_width t) (a ∷ b ∷ c ∷ d ∷ [])
  unfolding widths short_width
  widths_of_tag a b c d h =
      let vs : List ℕ = a ∷ b ∷ c ∷ d ∷ [] in
      rw (tag_field vs 0 (lit< tt) h, tag_field vs 1 (lit< tt) h, tag_field vs 2 (lit< tt) h, tag_field vs 3 (lit< tt) h)

  pub tag_byte : (a b c d : ℕ) → Below (top t) (a ∷ b ∷ c ∷ d ∷ []) → tag_of t (a ∷ b ∷ c ∷ d ∷ []) < 256
  tag_byte a b c d h = omega (arith, shortest-field a (h 0), shortest-field b (h 1), shortest-field c (h 2), shortest-field d (h 3))

  -- ---- encoding and back

  -- written equals the sum of the shortest widths
  pub bytes_length : (vs : List ℕ) → length (bytes_of t vs) ≡ total (map (short_width t) vs)
  bytes_length [] = refl
  bytes_length (v ∷ vs) =
      length-append (le_bytes (short_width t v) v) (bytes_of t vs) ∙ ap₂ (λ (x y : ℕ). x + y) (le_bytes-length (short_width t v) v) (bytes_length vs)

  -- the numbers of shortest widths, read from the bytes, are the values, with any bytes behind
  pub bytes_numbers : (vs more : List ℕ) → Below (top t) vs → numbers (map (short_width t) vs) (bytes_of t vs ++ more) ≡ vs
  bytes_numbers [] more h = refl
  bytes_numbers (v ∷ vs) more h =
      let w : ℕ = short_width t v in
      let own : List ℕ = le_bytes w v in
      let e : (own ++ bytes_of t vs) ++ more ≡ own ++ (bytes_of t vs ++ more) = append_assoc own (bytes_of t vs) more in
      rw (e, take_at own (bytes_of t vs ++ more) w (le_bytes-length w v), drop_at own (bytes_of t vs ++ more) w (le_bytes-length w v))
      (ap₂ (λ (x : ℕ) (l : List ℕ). x ∷ l) (le_value-le_bytes_fits w v (short_width_holds v (h 0))) (bytes_numbers vs more (λ i. h (suc i))))
