-- Demand 3: more material never changes what was read. r is the count of bytes of an accepted column, `data_len t tags`, and its values are
-- demand 2's. `make` is what decoding makes of the stored numbers: themselves, or the values that they add up to. Assumes nothing.
use mathlib.Core.Path.{◌≡◌, refl, ap, ap₂, sym, ◌∙◌}
use mathlib.Core.Bool.{Bool, true, false}
use mathlib.Core.List.{List, [], ◌∷◌, ◌++◌}
use Prim.Native.Nat.{ℕ, ◌+◌, ◌-◌, ◌*◌, ◌/◌, ◌%◌, ◌≤◌, ◌<◌, max}
use native.Mathlib.Nat.{add-mod-mod}
use native.Mathlib.Omega.{arith}
use lib.Dec.{ltb}
use lib.ListN.{length, take, drop, length-append, length-take, length-drop, take-append-drop}
use lib.Seq.{take_at, drop_at, length-take-le}
use borrow.Author.Tests.{ltb-true, ltb-false, lt-ltb, le-ltb}
use Rattle.packed.specs.Format.{pick, column_widths, total, data_len, stored, walked, wrapping_sum}
use Rattle.packed.specs.Refusals.{Lent, too_many_groups, other_tags, missing_data, tail_overrun, group_limit, applies, first_of, lent_to_decode, lent_to_read}
use Rattle.packed.specs.Calls.{Answer, Decoded, accepted, decoded, decoding_by, decoding_deltas, skipping}
use Rattle.packed.proofs.Columns.{stored-length}
use Rattle.packed.proofs.Deltas.{walked-append, walked-length}
use Rattle.packed.proofs.Numbers.{numbers_same, data_len-append, stored-append}
use Rattle.packed.proofs.Rows.{not_fours_no, other_tags_no}
use Rattle.theorems.proofs.Tail.{never_overrun}
use Rattle.theorems.proofs.Refusals.{decoding-number, skipping-number}
use Rattle.theorems.proofs.Accepted.{Decodable, decodes, decodable, Skippable, skips, skippable}

-- ---- any data with the same first r bytes give the same outcome

same_stored : (t tags bytes bytes' : List ℕ) → take (data_len t tags) bytes ≡ take (data_len t tags) bytes' → stored t tags bytes ≡ stored t tags bytes'
unfolding data_len stored
same_stored t tags bytes bytes' e = numbers_same (column_widths t tags) bytes bytes' e

same_there : (r : ℕ) (bytes bytes' : List ℕ) → r ≤ length bytes → take r bytes ≡ take r bytes' → r ≤ length bytes'
same_there r bytes bytes' h e = omega (arith, length-take r bytes, length-take r bytes', ap length e)

module _ (t tags bytes bytes' : List ℕ) (same : take (data_len t tags) bytes ≡ take (data_len t tags) bytes') where
  pub same_bytes_same_decoding : (make : List ℕ → List ℕ) (values : List ℕ) → (decoding_by make t tags bytes values).answer.number ≡ 0
      → decoding_by make t tags bytes' values ≡ decoding_by make t tags bytes values
  same_bytes_same_decoding make values ok =
      let d = decodable t tags bytes values make ok in
      let d' : Decodable t tags bytes' values = record { fours = d.fours; limit = d.limit; there = same_there (data_len t tags) bytes bytes' d.there same } in
      decodes t tags bytes' values make d'
      ∙ ap (λ (l : List ℕ). decoded (accepted (data_len t tags) 0) (make l)) (sym (same_stored t tags bytes bytes' same))
      ∙ sym (decodes t tags bytes values make d)

  pub same_bytes_same_skip : (m : ℕ) → (skipping t m tags bytes).number ≡ 0 → skipping t m tags bytes' ≡ skipping t m tags bytes
  same_bytes_same_skip m ok =
      let s = skippable t tags bytes m ok in
      let s' : Skippable t tags bytes' = record { limit = s.limit; there = same_there (data_len t tags) bytes bytes' s.there same } in
      skips t tags bytes' m s'
      ∙ ap (λ (l : List ℕ). accepted (data_len t tags) (wrapping_sum m l)) (sym (same_stored t tags bytes bytes' same))
      ∙ sym (skips t tags bytes m s)

-- ---- a longer column

-- with tags added, any bytes behind the r and values lent to match: 2 exactly when there are too many groups, else 6 exactly when the added
-- tags need more bytes than were added, and otherwise accepted
abbrev pub longer_number : List ℕ → List ℕ → List ℕ → List ℕ → ℕ
longer_number t tags added behind = pick (ltb group_limit (length (tags ++ added))) 2 (pick (ltb (length behind) (data_len t added)) 6 0)

module _ (t tags added bytes behind : List ℕ) (there : data_len t tags ≤ length bytes) where
  longer_bytes : length (take (data_len t tags) bytes ++ behind) ≡ data_len t tags + length behind
  longer_bytes = length-append (take (data_len t tags) bytes) behind ∙ ap (λ (n : ℕ). n + length behind) (length-take-le (data_len t tags) bytes there)

  longer_len : data_len t (tags ++ added) ≡ data_len t tags + data_len t added
  longer_len = data_len-append t tags added

  missing_same : (a b c : ℕ) → ltb (a + b) (a + c) ≡ ltb b c
  missing_same a b c = go (ltb b c) refl
    where
      go : (x : Bool) → ltb b c ≡ x → ltb (a + b) (a + c) ≡ x
      go true e = lt-ltb (a + b) (a + c) (omega (arith, ltb-true b c e))
      go false e = le-ltb (a + b) (a + c) (omega (arith, ltb-false b c e))

  missing_is : (l : Lent) → l.tags ≡ tags ++ added → l.bytes ≡ length (take (data_len t tags) bytes ++ behind)
      → applies t l missing_data ≡ ltb (length behind) (data_len t added)
  missing_is l et eb =
      ap₂ (λ (x y : ℕ). ltb x y) (eb ∙ longer_bytes) (ap (data_len t) et ∙ longer_len) ∙ missing_same (data_len t tags) (length behind) (data_len t added)

  -- rows 6 and 7: 7 never
  data_number : (l : Lent) → l.tags ≡ tags ++ added → l.bytes ≡ length (take (data_len t tags) bytes ++ behind)
      → first_of t l (missing_data ∷ tail_overrun ∷ []) ≡ pick (ltb (length behind) (data_len t added)) 6 0
  data_number l et eb = go (ltb (length behind) (data_len t added)) refl
    where
      go : (b : Bool) → ltb (length behind) (data_len t added) ≡ b → first_of t l (missing_data ∷ tail_overrun ∷ []) ≡ pick b 6 0
      go true e = ap (λ (x : Bool). pick x 6 (first_of t l (tail_overrun ∷ []))) (missing_is l et eb ∙ e)
      go false e =
          let fits : data_len t l.tags ≤ l.bytes = ltb-false l.bytes (data_len t l.tags) (missing_is l et eb ∙ e) in
          ap (λ (x : Bool). pick x 6 (first_of t l (tail_overrun ∷ []))) (missing_is l et eb ∙ e) ∙ ap (λ (x : Bool). pick x 7 0) (never_overrun t l fits)

  pub longer_decoding-number : (make : List ℕ → List ℕ) (values more : List ℕ) → 4 * length tags ≡ length values → length more ≡ 4 * length added
      → (decoding_by make t (tags ++ added) (take (data_len t tags) bytes ++ behind) (values ++ more)).answer.number ≡ longer_number t tags added behind
  longer_decoding-number make values more e em =
      let all : List ℕ = tags ++ added in
      let l : Lent = lent_to_decode (length (values ++ more)) all (length (take (data_len t tags) bytes ++ behind)) in
      let n : length (values ++ more) ≡ 4 * length all = omega (arith, length-append values more, length-append tags added) in
      let groups : max (length (values ++ more) / 4) (length all) ≡ length all = omega arith in
      decoding-number t all (take (data_len t tags) bytes ++ behind) make (values ++ more)
      ∙ ap (λ (b : Bool). pick b 1 (first_of t l (too_many_groups ∷ other_tags ∷ missing_data ∷ tail_overrun ∷ []))) (not_fours_no t l (omega arith))
      ∙ ap (λ (k : ℕ). pick (ltb group_limit k) 2 (first_of t l (other_tags ∷ missing_data ∷ tail_overrun ∷ []))) groups
      ∙ ap (λ (b : Bool). pick (ltb group_limit (length all)) 2 (pick b 5 (first_of t l (missing_data ∷ tail_overrun ∷ [])))) (other_tags_no t l (omega arith))
      ∙ ap (pick (ltb group_limit (length all)) 2) (data_number l refl refl)

  pub longer_skip_number : (m : ℕ) → (skipping t m (tags ++ added) (take (data_len t tags) bytes ++ behind)).number ≡ longer_number t tags added behind
  longer_skip_number m =
      let l : Lent = lent_to_read (tags ++ added) (length (take (data_len t tags) bytes ++ behind)) in
      skipping-number t (tags ++ added) (take (data_len t tags) bytes ++ behind) m ∙ ap (pick (ltb group_limit (length (tags ++ added))) 2) (data_number l refl refl)

  longer_stored : stored t (tags ++ added) (take (data_len t tags) bytes ++ behind) ≡ stored t tags bytes ++ stored t added behind
  longer_stored =
      let r : ℕ = data_len t tags in
      let own : length (take r bytes) ≡ r = length-take-le r bytes there in
      stored-append t tags added (take r bytes ++ behind)
      ∙ ap₂ (λ (a b : List ℕ). a ++ stored t added b)
      (same_stored t tags (take r bytes ++ behind) bytes (take_at (take r bytes) behind r own))
      (drop_at (take r bytes) behind r own)

  -- and where it is accepted it starts with the same values
  pub longer_starts_the_same : (make : List ℕ → List ℕ) → ((xs ys : List ℕ) → take (length xs) (make (xs ++ ys)) ≡ make xs) → (values more : List ℕ)
      → (decoding_by make t tags bytes values).answer.number ≡ 0 → length more ≡ 4 * length added
      → (decoding_by make t (tags ++ added) (take (data_len t tags) bytes ++ behind) (values ++ more)).answer.number ≡ 0
      → take (length values) (decoding_by make t (tags ++ added) (take (data_len t tags) bytes ++ behind) (values ++ more)).values ≡ (decoding_by make t tags bytes values).values
  longer_starts_the_same make grows values more ok em ok' =
      let d = decodable t tags bytes values make ok in
      let longer = decodes t (tags ++ added) (take (data_len t tags) bytes ++ behind) (values ++ more) make
      (decodable t (tags ++ added) (take (data_len t tags) bytes ++ behind) (values ++ more) make ok') in
      let count : length values ≡ length (stored t tags bytes) = sym (stored-length t tags bytes ∙ d.fours) in
      ap (λ (o : Decoded). take (length values) o.values) longer
      ∙ ap₂ (λ (n : ℕ) (l : List ℕ). take n (make l)) count longer_stored
      ∙ grows (stored t tags bytes) (stored t added behind)
      ∙ sym (ap (λ (o : Decoded). o.values) (decodes t tags bytes values make d))

-- plain decoding and delta decoding grow so
pub plain_grows : (xs ys : List ℕ) → take (length xs) (xs ++ ys) ≡ xs
plain_grows xs ys = take_at xs ys (length xs) refl

pub deltas_grow : (m start : ℕ) → start < m → (xs ys : List ℕ) → take (length xs) (walked m start (xs ++ ys)) ≡ walked m start xs
deltas_grow m start small xs ys =
    ap (take (length xs)) (walked-append m start xs ys small)
    ∙ take_at (walked m start xs) (walked m ((start + total xs) % m) ys) (length xs) (walked-length m start xs)

-- ---- at every cut between groups

module _ (t : List ℕ) (m start : ℕ) (small : start < m) (tags bytes values : List ℕ) (ok : (decoding_deltas t m start tags bytes values).answer.number ≡ 0)
    (k : ℕ) (inside : k ≤ length tags) where
  whole : Decodable t tags bytes values
  whole = decodable t tags bytes values (walked m start) ok

  cut_tags : take k tags ++ drop k tags ≡ tags
  cut_tags = take-append-drop k tags

  cut_len : data_len t tags ≡ data_len t (take k tags) + data_len t (drop k tags)
  cut_len = ap (data_len t) (sym cut_tags) ∙ data_len-append t (take k tags) (drop k tags)

  first_part : Skippable t (take k tags) bytes
  first_part = record {
    limit = omega (arith, length-take-le k tags inside, whole.limit);
    there = omega (arith, cut_len, whole.there);
  }

  -- skipping the first k tags is accepted,
  pub skip_to_the_cut : skipping t m (take k tags) bytes ≡ accepted (data_len t (take k tags)) (wrapping_sum m (stored t (take k tags) bytes))
  skip_to_the_cut = skips t (take k tags) bytes m first_part

  -- and delta decoding the rest, from the byte where the skip ended and from start plus skipped sum modulo m, is accepted and gives the
  -- whole delta decode's values from 4k on.
  pub decode_from_the_cut : (lent : List ℕ) → length lent ≡ 4 * (length tags - k)
      → decoding_deltas t m ((start + (skipping t m (take k tags) bytes).sum) % m) (drop k tags) (drop (skipping t m (take k tags) bytes).count bytes) lent
      ≡ decoded (accepted (data_len t (drop k tags)) 0) (drop (4 * k) (decoding_deltas t m start tags bytes values).values)
  unfolding wrapping_sum
  decode_from_the_cut lent el =
      let n : ℕ = data_len t (take k tags) in
      let xs : List ℕ = stored t (take k tags) bytes in
      let ys : List ℕ = stored t (drop k tags) (drop n bytes) in
      let later : Decodable t (drop k tags) (drop n bytes) lent = record {
        fours = omega (arith, length-drop k tags);
        limit = omega (arith, length-drop k tags, whole.limit);
        there = omega (arith, length-drop n bytes, cut_len, whole.there);
      } in
      let from : (start + (skipping t m (take k tags) bytes).sum) % m ≡ (start + total xs) % m =
      ap (λ (a : Answer). (start + a.sum) % m) skip_to_the_cut ∙ add-mod-mod start (total xs) m in
      let four : length (walked m start xs) ≡ 4 * k =
      walked-length m start xs ∙ stored-length t (take k tags) bytes ∙ ap (λ (j : ℕ). 4 * j) (length-take-le k tags inside) in
      let all : stored t tags bytes ≡ xs ++ ys = ap (λ (l : List ℕ). stored t l bytes) (sym cut_tags) ∙ stored-append t (take k tags) (drop k tags) bytes in
      ap₂ (λ (p i : ℕ). decoding_deltas t m p (drop k tags) (drop i bytes) lent) from (ap (λ (a : Answer). a.count) skip_to_the_cut)
      ∙ decodes t (drop k tags) (drop n bytes) lent (walked m ((start + total xs) % m)) later
      ∙ ap (decoded (accepted (data_len t (drop k tags)) 0))
      (sym (ap (λ (o : Decoded). drop (4 * k) o.values) (decodes t tags bytes values (walked m start) whole)
      ∙ ap (λ (l : List ℕ). drop (4 * k) (walked m start l)) all
      ∙ ap (drop (4 * k)) (walked-append m start xs ys small)
      ∙ drop_at (walked m start xs) (walked m ((start + total xs) % m) ys) (4 * k) four))
