-- Demand 1: each call's number is k exactly when row k applies and no earlier row of that call does; a refused outcome has count 0,
-- sum 0 and all buffers unaltered. (That every input has an outcome is the calls' own proof: none asks anything of its caller, and each
-- returns.) Assumes nothing.
use mathlib.Core.Path.{◌≡◌, refl, ap, sym, ◌∙◌}
use mathlib.Core.Bool.{Bool, true, false}
use mathlib.Core.Logic.{◌↔◌}
use mathlib.Core.List.{List, [], ◌∷◌, ◌++◌}
use Prim.Native.Nat.{ℕ, zero, suc, ◌<◌}
use native.Mathlib.Omega.{arith}
use lib.Dec.{T, ltb, ltb→lt}
use lib.ListN.{length}
use Rattle.packed.specs.Format.{pick}
use Rattle.packed.specs.Refusals.{Lent, Row, number, applies, first_of, lent_to_encode, lent_to_decode, lent_to_read, encoding_rows, decoding_rows, skipping_rows, tightness_rows, length_rows}
use Rattle.packed.specs.Calls.{Answer, Encoded, Decoded, untested, refused, unless_refused, encoded, encoding, decoded, decoding_by, skipping, measuring, testing}
use Rattle.packed.proofs.Rows.{passed}
use Rattle.packed.proofs.Table.{both, both_left, both_right}

-- no row of the list applies
abbrev pub None : List ℕ → Lent → List Row → Type 0
None t l [] = Unit {0}
None t l (r ∷ rs) = (applies t l r ≡ false) × None t l rs

-- the rows stand in the order of their numbers: the test computes
abbrev pub below : ℕ → List Row → Bool
below n [] = true
below n (r ∷ rs) = both (ltb n (number r)) (below (number r) rs)

abbrev pub in_order : List Row → Bool
in_order rs = below 0 rs

member_above : (n : ℕ) (before after : List Row) (r : Row) → T (below n (before ++ r ∷ after)) → n < number r
member_above n [] after r h = ltb→lt n (number r) (both_left (ltb n (number r)) (below (number r) after) h)
member_above n (q ∷ before) after r h =
    omega (
      arith,
      ltb→lt n (number q) (both_left (ltb n (number q)) (below (number q) (before ++ r ∷ after)) h),
      member_above (number q) before after r (both_right (ltb n (number q)) (below (number q) (before ++ r ∷ after)) h),
    )

module _ (t : List ℕ) (l : Lent) where
  above_step : (n : ℕ) (q : Row) (b : Bool) (m x : ℕ) → n < number q → ((y : ℕ) → m ≡ suc y → number q < suc y) → pick b (number q) m ≡ suc x → n < suc x
  above_step n q true m x h f e = omega arith
  above_step n q false m x h f e = omega (arith, f x e)

  above : (n : ℕ) (rs : List Row) → T (below n rs) → (x : ℕ) → first_of t l rs ≡ suc x → n < suc x
  above n [] h x e = absurd (omega arith)
  above n (q ∷ rs) h x e =
      above_step n q (applies t l q) (first_of t l rs) x (ltb→lt n (number q) (both_left (ltb n (number q)) (below (number q) rs) h))
      (above (number q) rs (both_right (ltb n (number q)) (below (number q) rs) h)) e

  given : (before after : List Row) (r : Row) → None t l before → applies t l r ≡ true → first_of t l (before ++ r ∷ after) ≡ number r
  given [] after r none e = ap (λ (b : Bool). pick b (number r) (first_of t l after)) e
  given (q ∷ before) after r none e = ap (λ (b : Bool). pick b (number q) (first_of t l (before ++ r ∷ after))) none.0 ∙ given before after r none.1 e

  here_step : (r : Row) (b : Bool) (m : ℕ) → 0 < number r → ((y : ℕ) → m ≡ suc y → number r < suc y) → pick b (number r) m ≡ number r → b ≡ true
  here_step r true m pos f e = refl
  here_step r false m pos f e = go (number r) refl
    where
      go : (k : ℕ) → number r ≡ k → false ≡ true
      go zero ek = absurd (omega arith)
      go (suc k) ek = absurd (omega (arith, f k (e ∙ ek)))

  earlier_step : (q r : Row) (b : Bool) (m : ℕ) → number q < number r → pick b (number q) m ≡ number r → (b ≡ false) × (m ≡ number r)
  earlier_step q r true m h e = absurd (omega arith)
  earlier_step q r false m h e = (refl, e)

  only_then : (n : ℕ) (before after : List Row) (r : Row) → T (below n (before ++ r ∷ after)) → first_of t l (before ++ r ∷ after) ≡ number r
      → None t l before × (applies t l r ≡ true)
  only_then n [] after r h e = (
    tt,
    here_step r (applies t l r) (first_of t l after) (omega (arith, member_above n [] after r h))
        (above (number r) after (both_right (ltb n (number r)) (below (number r) after) h)) e,
  )
  only_then n (q ∷ before) after r h e =
      let later : T (below (number q) (before ++ r ∷ after)) = both_right (ltb n (number q)) (below (number q) (before ++ r ∷ after)) h in
      let s = earlier_step q r (applies t l q) (first_of t l (before ++ r ∷ after)) (member_above (number q) before after r later) e in
      let rest = only_then (number q) before after r later s.1 in
      ((s.0, rest.0), rest.1)

  -- The number of row r, among a call's rows, is given exactly when it applies and no earlier row of that call does;
  pub number_exactly_when : (before after : List Row) (r : Row) → T (in_order (before ++ r ∷ after))
      → (first_of t l (before ++ r ∷ after) ≡ number r) ↔ (None t l before × (applies t l r ≡ true))
  number_exactly_when before after r h = (only_then 0 before after r h, λ x. given before after r x.0 x.1)

  none_then : (rs : List Row) → None t l rs → first_of t l rs ≡ 0
  none_then [] none = refl
  none_then (r ∷ rs) none = ap (λ (b : Bool). pick b (number r) (first_of t l rs)) none.0 ∙ none_then rs none.1

  then_none : (rs : List Row) → first_of t l rs ≡ 0 → None t l rs
  then_none [] e = tt
  then_none (r ∷ rs) e = let p = passed t l r rs e in (p.0, then_none rs p.1)

  -- and 0 exactly when none of its rows applies.
  pub accepted_exactly_when : (rs : List Row) → (first_of t l rs ≡ 0) ↔ None t l rs
  accepted_exactly_when rs = (then_none rs, none_then rs)

-- Every call's rows stand in order.
pub rows_in_order : T (in_order encoding_rows) × T (in_order decoding_rows) × T (in_order skipping_rows) × T (in_order tightness_rows) × T (in_order length_rows)
rows_in_order = (tt, tt, tt, tt, tt)

-- ---- each call's number is the first of its rows that applies, and a refused outcome has count 0, sum 0 and all buffers unaltered

number_step : (A : Type 0) (f : A → ℕ) (n : ℕ) (a : A) (b : ℕ → A) → f a ≡ 0 → ((k : ℕ) → f (b k) ≡ k) → f (unless_refused n a (b n)) ≡ n
number_step A f zero a b ea eb = ea
number_step A f (suc n) a b ea eb = eb (suc n)

module _ (t tags bytes : List ℕ) where
  pub encoding-number : (values : List ℕ) → (encoding t values tags bytes).answer.number ≡ first_of t (lent_to_encode (length values) tags (length bytes)) encoding_rows
  unfolding encoding
  encoding-number values = number_step Encoded (λ (x : Encoded). x.answer.number) _ _ (λ (k : ℕ). encoded (refused k) tags bytes) refl (λ k. refl)

  pub encoding-refused : (values : List ℕ) (k : ℕ) → (encoding t values tags bytes).answer.number ≡ suc k → encoding t values tags bytes ≡ encoded (refused (suc k)) tags bytes
  unfolding encoding
  encoding-refused values k e =
      let f : first_of t (lent_to_encode (length values) tags (length bytes)) encoding_rows ≡ suc k = sym (encoding-number values) ∙ e in
      rw f refl

  pub decoding-number : (make : List ℕ → List ℕ) (values : List ℕ)
      → (decoding_by make t tags bytes values).answer.number ≡ first_of t (lent_to_decode (length values) tags (length bytes)) decoding_rows
  unfolding decoding_by
  decoding-number make values = number_step Decoded (λ (x : Decoded). x.answer.number) _ _ (λ (k : ℕ). decoded (refused k) values) refl (λ k. refl)

  pub decoding-refused : (make : List ℕ → List ℕ) (values : List ℕ) (k : ℕ) → (decoding_by make t tags bytes values).answer.number ≡ suc k
      → decoding_by make t tags bytes values ≡ decoded (refused (suc k)) values
  unfolding decoding_by
  decoding-refused make values k e =
      let f : first_of t (lent_to_decode (length values) tags (length bytes)) decoding_rows ≡ suc k = sym (decoding-number make values) ∙ e in
      rw f refl

  pub skipping-number : (m : ℕ) → (skipping t m tags bytes).number ≡ first_of t (lent_to_read tags (length bytes)) skipping_rows
  unfolding skipping
  skipping-number m = number_step Answer (λ (x : Answer). x.number) _ _ refused refl (λ k. refl)

  pub skipping-refused : (m k : ℕ) → (skipping t m tags bytes).number ≡ suc k → skipping t m tags bytes ≡ refused (suc k)
  unfolding skipping
  skipping-refused m k e =
      let f : first_of t (lent_to_read tags (length bytes)) skipping_rows ≡ suc k = sym (skipping-number m) ∙ e in
      rw f refl

  pub measuring-number : (measuring t tags).number ≡ first_of t (lent_to_read tags 0) length_rows
  unfolding measuring
  measuring-number = number_step Answer (λ (x : Answer). x.number) _ _ refused refl (λ k. refl)

  pub measuring-refused : (k : ℕ) → (measuring t tags).number ≡ suc k → measuring t tags ≡ refused (suc k)
  unfolding measuring
  measuring-refused k e =
      let f : first_of t (lent_to_read tags 0) length_rows ≡ suc k = sym measuring-number ∙ e in
      rw f refl

  -- the tightness check is refused exactly when one of its rows applies
  pub testing-refused : (k : ℕ) → first_of t (lent_to_read tags (length bytes)) tightness_rows ≡ suc k → testing t tags bytes ≡ untested (suc k)
  unfolding testing
  testing-refused k e = rw e refl
