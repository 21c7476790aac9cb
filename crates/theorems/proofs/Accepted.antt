-- When a call is accepted, in plain words, and what it then gives. Assumes nothing.
use mathlib.Core.Path.{◌≡◌, refl, sym, ◌∙◌, subst}
use mathlib.Core.List.{List, [], ◌∷◌, ◌++◌}
use Prim.Native.Nat.{ℕ, ◌*◌, ◌/◌, ◌≤◌}
use native.Mathlib.Omega.{arith}
use lib.ListN.{length, drop}
use Rattle.packed.specs.Format.{data_len, stored, wrapping_sum, tags_of, bytes_of}
use Rattle.packed.specs.Refusals.{Lent, not_fours, too_many_groups, other_tags, missing_data, tail_overrun, group_limit, first_of, lent_to_encode, lent_to_decode, lent_to_read, encoding_rows, decoding_rows, skipping_rows}
use Rattle.packed.specs.Calls.{accepted, encoded, encoding, decoded, decoding_by, skipping}
use Rattle.packed.proofs.Rows.{miss, passed, first_passed, not_fours_no, too_many_no, other_tags_no, missing_data_no, few_groups}
use Rattle.answers.specs.Meaning.{count_rows, data_rows}
use Rattle.answers.proofs.Calls.{matched, allowed, data_fits}
use Rattle.theorems.proofs.Tail.{never_overrun}
use Rattle.theorems.proofs.Refusals.{decoding-number, encoding-number, skipping-number}

-- a column that can be decoded: four values for each tag, within the limit, and all its bytes there
pub record Decodable (t tags bytes values : List ℕ) : Type 0 where
  pub fours : 4 * length tags ≡ length values
  pub limit : length tags ≤ group_limit
  pub there : data_len t tags ≤ length bytes

-- and one that can be skipped
pub record Skippable (t tags bytes : List ℕ) : Type 0 where
  pub limit : length tags ≤ group_limit
  pub there : data_len t tags ≤ length bytes

module _ (t tags bytes : List ℕ) where
  data_none : (l : Lent) → l.tags ≡ tags → l.bytes ≡ length bytes → data_len t tags ≤ length bytes → first_of t l data_rows ≡ 0
  data_none l et eb h =
      let there : data_len t l.tags ≤ l.bytes = subst (λ (n : ℕ). data_len t l.tags ≤ n) (sym eb) (subst (λ (x : List ℕ). data_len t x ≤ length bytes) (sym et) h) in
      sym (miss t l missing_data (tail_overrun ∷ []) 0 (missing_data_no t l there) (miss t l tail_overrun [] 0 (never_overrun t l there) refl))

  module _ (values : List ℕ) where
    count_none : Decodable t tags bytes values → first_of t (lent_to_decode (length values) tags (length bytes)) count_rows ≡ 0
    count_none d =
        let l : Lent = lent_to_decode (length values) tags (length bytes) in
        let e : length values / 4 ≡ length tags = omega (arith, d.fours) in
        sym (miss t l not_fours (too_many_groups ∷ other_tags ∷ []) 0 (not_fours_no t l (omega (arith, d.fours)))
        (miss t l too_many_groups (other_tags ∷ []) 0 (too_many_no t l (omega (arith, d.limit)))
        (miss t l other_tags [] 0 (other_tags_no t l (sym e)) refl)))

    decodable-none : Decodable t tags bytes values → first_of t (lent_to_decode (length values) tags (length bytes)) decoding_rows ≡ 0
    decodable-none d =
        let l : Lent = lent_to_decode (length values) tags (length bytes) in
        first_passed t l count_rows data_rows (count_none d) ∙ data_none l refl refl d.there

    -- what can be decoded is accepted, with the bytes of its tags read and all values filled
    pub decodes : (make : List ℕ → List ℕ) → Decodable t tags bytes values
        → decoding_by make t tags bytes values ≡ decoded (accepted (data_len t tags) 0) (make (stored t tags bytes))
    unfolding decoding_by
    decodes make d = rw (decodable-none d) refl

    accepted-none : (make : List ℕ → List ℕ) → (decoding_by make t tags bytes values).answer.number ≡ 0
        → first_of t (lent_to_decode (length values) tags (length bytes)) decoding_rows ≡ 0
    accepted-none make e = sym (decoding-number t tags bytes make values) ∙ e

    -- and nothing else is
    pub decodable : (make : List ℕ → List ℕ) → (decoding_by make t tags bytes values).answer.number ≡ 0 → Decodable t tags bytes values
    decodable make e =
        let l : Lent = lent_to_decode (length values) tags (length bytes) in
        let one = passed t l not_fours (too_many_groups ∷ other_tags ∷ data_rows) (accepted-none make e) in
        let two = passed t l too_many_groups (other_tags ∷ data_rows) one.1 in
        let five = passed t l other_tags data_rows two.1 in
        let six = data_fits t l five.1 in
        let front : first_of t l count_rows ≡ 0 =
        sym (miss t l not_fours (too_many_groups ∷ other_tags ∷ []) 0 one.0 (miss t l too_many_groups (other_tags ∷ []) 0 two.0 (miss t l other_tags [] 0 five.0 refl))) in
        let m = matched make t tags bytes values front in
        record { fours = m.0; limit = m.1; there = six.0 }

  skippable_none : Skippable t tags bytes → first_of t (lent_to_read tags (length bytes)) skipping_rows ≡ 0
  skippable_none s =
      let l : Lent = lent_to_read tags (length bytes) in
      sym (miss t l too_many_groups data_rows 0 (too_many_no t l s.limit) (sym (data_none l refl refl s.there)))

  pub skips : (m : ℕ) → Skippable t tags bytes → skipping t m tags bytes ≡ accepted (data_len t tags) (wrapping_sum m (stored t tags bytes))
  unfolding skipping
  skips m s = rw (skippable_none s) refl

  pub skippable : (m : ℕ) → (skipping t m tags bytes).number ≡ 0 → Skippable t tags bytes
  skippable m e =
      let l : Lent = lent_to_read tags (length bytes) in
      let two = passed t l too_many_groups data_rows (sym (skipping-number t tags bytes m) ∙ e) in
      record { limit = few_groups t l two.0; there = (data_fits t l two.1).0 }

  -- ---- encoding

  pub encodes : (ds : List ℕ) → (encoding t ds tags bytes).answer.number ≡ 0
      → encoding t ds tags bytes
      ≡ encoded (accepted (length (bytes_of t ds)) 0) (tags_of t (length ds / 4) ds ++ drop (length ds / 4) tags) (bytes_of t ds ++ drop (length (bytes_of t ds)) bytes)
  unfolding encoding
  encodes ds e =
      let f : first_of t (lent_to_encode (length ds) tags (length bytes)) encoding_rows ≡ 0 = sym (encoding-number t tags bytes ds) ∙ e in
      rw f refl

  -- whole groups, within the limit, with tags and room for each
  pub encodable : (ds : List ℕ) → (encoding t ds tags bytes).answer.number ≡ 0 → (4 * (length ds / 4) ≡ length ds) × (length ds / 4 ≤ group_limit)
  encodable ds e =
      let may = allowed t ds tags bytes (sym (encoding-number t tags bytes ds) ∙ e) in
      (may.0, may.1)
