-- From the checks to the calls' definitions, over the width table t: what a call promises where a check refuses and where all accept.
-- Assumes nothing.
use mathlib.Core.Path.{◌≡◌, refl, ap, ap₂, sym, ◌∙◌, subst}
use mathlib.Core.List.{List, [], ◌∷◌, ◌++◌, append-nil}
use Prim.Native.Nat.{ℕ, suc, pred, ◌+◌, ◌*◌, ◌/◌, ◌%◌, ◌≤◌}
use native.Mathlib.Nat.{zero-add}
use native.Mathlib.Omega.{arith}
use lib.ListN.{length, drop, drop_of_length-le}
use lib.Seq.{sets, sets-eq, slice, take-length}
use Rattle.std.specs.Prelude.{Option, Result, Ok, Err, IsErrAnd}
use Rattle.packed.specs.Format.{total, data_len, stored, tags_of, bytes_of, steps, walked, wrapping_sum}
use Rattle.packed.specs.Refusals.{Lent, Row, not_fours, too_many_groups, few_tags, little_room, other_tags, missing_data, tail_overrun, lent_to_encode, lent_to_decode, lent_to_read, group_limit, first_of, encoding_rows, decoding_rows, skipping_rows, tightness_rows, length_rows}
use Rattle.packed.specs.Calls.{accepted, refused, unless_refused, encoded, encoding, encoding_deltas, decoded, decoding_by, skipping, measuring, testing, tightness_of, untested}
use Rattle.packed.specs.Column.{Runs, RunsDeltas, RunsSum, RunsEncode, Measured}
use Rattle.packed.specs.Stages.{widest_group, tail_takes, tail_copied}
use Rattle.packed.proofs.Columns.{stored-length}
use Rattle.packed.proofs.Deltas.{steps-length, walked-length}
use Rattle.packed.proofs.Encodes.{groups_most, encodes_all}
use Rattle.packed.proofs.Ends.{Table}
use Rattle.packed.proofs.Rows.{passed, first_passed, first_stands, fours, few_groups, enough_tags, enough_room, matching_tags, enough_data, enough_copied}
use Rattle.answers.specs.declared.Refusal.{Refusal}
use Rattle.answers.specs.declared.Refusal.TheVariants.{NotFours, TooManyGroups, FewTags, LittleRoom, OtherTags, MissingData, TailOverrun}
use Rattle.answers.specs.declared.Skipped.{Skipped}
use Rattle.answers.specs.declared.Place.{Place}
use Rattle.answers.specs.Meaning.{refusal_number, counted, skipped, tested, count_rows, data_rows, limit_row, missing_row}

-- ---- checks and rows

-- a refusal's number is above 0
positive : (why : Refusal) → refusal_number why ≡ suc (pred (refusal_number why))
positive NotFours = refl
positive TooManyGroups = refl
positive FewTags = refl
positive LittleRoom = refl
positive OtherTags = refl
positive MissingData = refl
positive TailOverrun = refl

module _ (t : List ℕ) (l : Lent) (rs qs : List Row) where
  -- what a check refuses the call refuses
  pub refuses : (why : Refusal) → refusal_number why ≡ first_of t l rs → first_of t l (rs ++ qs) ≡ refusal_number why
  refuses why says = first_stands t l rs qs (pred (refusal_number why)) (sym says ∙ positive why) ∙ sym (positive why)

  -- the same of a check of the rows behind those that did not apply
  pub refuses_behind : first_of t l rs ≡ 0 → (why : Refusal) → refusal_number why ≡ first_of t l qs → first_of t l (rs ++ qs) ≡ refusal_number why
  refuses_behind none why says = first_passed t l rs qs none ∙ sym says

  pub accepts_behind : first_of t l rs ≡ 0 → 0 ≡ first_of t l qs → first_of t l (rs ++ qs) ≡ 0
  accepts_behind none says = first_passed t l rs qs none ∙ sym says

unless_refused_lem {ℓ} : {A : Type ℓ} (n : ℕ) (why : Refusal) (a b : A) → n ≡ refusal_number why → unless_refused n a b ≡ b
unless_refused_lem n why a b e = ap (λ (k : ℕ). unless_refused k a b) (e ∙ positive why)

-- what a call hands on, where a check that it made refused
pub handed_on : {A B : Type 0} (f : Result A Refusal → B) (r : Result A Refusal) (why : Refusal) → IsErrAnd r (λ e. e ≡ why) → f r ≡ f (Err why)
handed_on f (Ok _) why is = absurd is
handed_on f (Err _) why is = ap (λ (e : Refusal). f (Err e)) is

-- ---- decoding

module _ (make : List ℕ → List ℕ) (t tags bytes values : List ℕ) where
  -- what decoding was lent
  abbrev pub lent : Lent
  lent = lent_to_decode (length values) tags (length bytes)

  pub decoding-refused : (r : Result ℕ Refusal) (why : Refusal) → IsErrAnd r (λ e. e ≡ why) → first_of t lent decoding_rows ≡ refusal_number why
      → decoded (counted r) values ≡ decoding_by make t tags bytes values
  unfolding decoding_by
  decoding-refused r why is e =
      handed_on (λ (x : Result ℕ Refusal). decoded (counted x) values) r why is
      ∙ sym (unless_refused_lem _ why _ _ e ∙ ap (λ (n : ℕ). decoded (refused n) values) e)

  pub decoding-accepted : first_of t lent decoding_rows ≡ 0
      → decoded (accepted (data_len t tags) 0) (make (stored t tags bytes)) ≡ decoding_by make t tags bytes values
  unfolding decoding_by
  decoding-accepted e = sym (ap (λ (n : ℕ). unless_refused n (decoded (accepted (data_len t tags) 0) (make (stored t tags bytes))) (decoded (refused n) values)) e)

  -- where rows 1, 2 and 5 do not apply, the values are four for each tag, within the limit
  pub matched : first_of t lent count_rows ≡ 0 → (4 * length tags ≡ length values) × (length tags ≤ group_limit)
  matched e =
      let one = passed t lent not_fours (too_many_groups ∷ other_tags ∷ []) e in
      let two = passed t lent too_many_groups (other_tags ∷ []) one.1 in
      let five = passed t lent other_tags [] two.1 in (
        omega (arith, fours t lent one.0, matching_tags t lent five.0),
        omega (arith, few_groups t lent two.0),
      )

-- where rows 6 and 7 do not apply
pub data_fits : (t : List ℕ) (l : Lent) → first_of t l data_rows ≡ 0
    → (data_len t l.tags ≤ l.bytes) × (tail_takes t l.tags l.bytes ≤ tail_copied t l.tags l.bytes)
data_fits t l e =
    let six = passed t l missing_data (tail_overrun ∷ []) e in
    let seven = passed t l tail_overrun [] six.1 in
    (enough_data t l six.0, enough_copied t l seven.0)

-- a buffer that is filled from end to end holds what was stored
filled : (values ns : List ℕ) → length ns ≡ length values → sets values 0 ns ≡ ns
filled values ns e =
    sets-eq ns values 0 (omega arith)
    ∙ ap (λ (l : List ℕ). ns ++ l) (drop_of_length-le values {i = 0 + length ns} (omega arith)) ∙ append-nil ns

pub whole : (tags : List ℕ) → slice 0 (length tags) tags ≡ tags
whole tags = take-length tags

module _ (t tags bytes values after : List ℕ) (fours : 4 * length tags ≡ length values)
    (none : first_of t (lent_to_decode (length values) tags (length bytes)) decoding_rows ≡ 0) where
  all_stored : sets values (4 * 0) (stored t (slice 0 (length tags) tags) (drop 0 bytes)) ≡ stored t tags bytes
  all_stored =
      ap (λ (l : List ℕ). sets values 0 (stored t l bytes)) (whole tags) ∙ filled values (stored t tags bytes) (stored-length t tags bytes ∙ fours)

  all_walked : (m p : ℕ) → sets values (4 * 0) (walked m p (stored t (slice 0 (length tags) tags) (drop 0 bytes))) ≡ walked m p (stored t tags bytes)
  all_walked m p =
      ap (λ (l : List ℕ). sets values 0 (walked m p (stored t l bytes))) (whole tags)
      ∙ filled values (walked m p (stored t tags bytes)) (walked-length m p (stored t tags bytes) ∙ stored-length t tags bytes ∙ fours)

  all_read : (r : ℕ) → r ≡ 0 + data_len t (slice 0 (length tags) tags) → r ≡ data_len t tags
  all_read r e = e ∙ zero-add (data_len t (slice 0 (length tags) tags)) ∙ ap (data_len t) (whole tags)

  pub decoded_all : {r : ℕ} → Runs t tags bytes values 0 (length tags) 0 r after
      → decoded (counted (Ok r)) after ≡ decoding_by (λ (ns : List ℕ). ns) t tags bytes values
  decoded_all {r} x =
      ap₂ (λ (n : ℕ) (l : List ℕ). decoded (accepted n 0) l) (all_read r x.read) (x.values ∙ all_stored)
      ∙ decoding-accepted (λ (ns : List ℕ). ns) t tags bytes values none

  pub decoded_deltas_all : {m p r last : ℕ} → RunsDeltas t tags bytes values m 0 (length tags) 0 p r last after
      → decoded (counted (Ok r)) after ≡ decoding_by (walked m p) t tags bytes values
  decoded_deltas_all {m} {p} {r} {last} x =
      ap₂ (λ (n : ℕ) (l : List ℕ). decoded (accepted n 0) l) (all_read r x.read) (x.values ∙ all_walked m p)
      ∙ decoding-accepted (walked m p) t tags bytes values none

-- ---- skipping and measuring

module _ (t tags bytes : List ℕ) (m : ℕ) where
  abbrev pub lent_skip : Lent
  lent_skip = lent_to_read tags (length bytes)

  pub skipping-refused : {E : Type 0} (value : E → ℕ) (r : Result (Skipped E) Refusal) (why : Refusal) → IsErrAnd r (λ e. e ≡ why)
      → first_of t lent_skip skipping_rows ≡ refusal_number why → skipped value r ≡ skipping t m tags bytes
  unfolding skipping
  skipping-refused value r why is e = handed_on (skipped value) r why is ∙ sym (unless_refused_lem _ why _ _ e ∙ ap refused e)

  pub skipped_all : {E : Type 0} (value : E → ℕ) (s : Skipped E) → first_of t lent_skip skipping_rows ≡ 0
      → RunsSum t tags bytes m 0 (length tags) 0 0 s.read (value s.sum) → skipped value (Ok s) ≡ skipping t m tags bytes
  unfolding skipping wrapping_sum
  skipped_all value s e x =
      ap₂ accepted (x.read ∙ zero-add _ ∙ ap (data_len t) (whole tags))
      (x.sum ∙ ap (λ (n : ℕ). n % m) (zero-add _) ∙ ap (λ (l : List ℕ). total (stored t l bytes) % m) (whole tags))
      ∙ sym (ap (λ (n : ℕ). unless_refused n (accepted (data_len t tags) (wrapping_sum m (stored t tags bytes))) (refused n)) e)

-- within the limit
pub limited : (t : List ℕ) (l : Lent) → first_of t l limit_row ≡ 0 → l.groups ≤ group_limit
limited t l e = few_groups t l (passed t l too_many_groups [] e).0

module _ (t tags : List ℕ) where
  pub measuring-refused : (r : Result ℕ Refusal) (why : Refusal) → IsErrAnd r (λ e. e ≡ why)
      → first_of t (lent_to_read tags 0) length_rows ≡ refusal_number why → counted r ≡ measuring t tags
  unfolding measuring
  measuring-refused r why is e = handed_on counted r why is ∙ sym (unless_refused_lem _ why _ _ e ∙ ap refused e)

  pub measured_all : {r : ℕ} → first_of t (lent_to_read tags 0) length_rows ≡ 0 → Measured t tags 0 (length tags) r → counted (Ok r) ≡ measuring t tags
  unfolding measuring
  measured_all {r} e x =
      ap (λ (n : ℕ). accepted n 0) (x.len ∙ ap (data_len t) (whole tags))
      ∙ sym (ap (λ (n : ℕ). unless_refused n (accepted (data_len t tags) 0) (refused n)) e)

-- ---- encoding

module _ (t values tags bytes : List ℕ) where
  -- what encoding was lent
  abbrev pub lent_encode : Lent
  lent_encode = lent_to_encode (length values) tags (length bytes)

  pub encoding-refused : (r : Result ℕ Refusal) (why : Refusal) → IsErrAnd r (λ e. e ≡ why) → first_of t lent_encode encoding_rows ≡ refusal_number why
      → encoded (counted r) tags bytes ≡ encoding t values tags bytes
  unfolding encoding
  encoding-refused r why is e =
      handed_on (λ (x : Result ℕ Refusal). encoded (counted x) tags bytes) r why is
      ∙ sym (unless_refused_lem _ why _ _ e ∙ ap (λ (n : ℕ). encoded (refused n) tags bytes) e)

  -- where no row applies there are whole groups, within the limit, with tags and room for each
  pub allowed : first_of t lent_encode encoding_rows ≡ 0
      → (4 * (length values / 4) ≡ length values) × (length values / 4 ≤ group_limit) × (length values / 4 ≤ length tags)
      × (widest_group t * (length values / 4) ≤ length bytes)
  allowed e =
      let one = passed t lent_encode not_fours (too_many_groups ∷ few_tags ∷ little_room ∷ []) e in
      let two = passed t lent_encode too_many_groups (few_tags ∷ little_room ∷ []) one.1 in
      let three = passed t lent_encode few_tags (little_room ∷ []) two.1 in
      let four = passed t lent_encode little_room [] three.1 in (
        omega (arith, fours t lent_encode one.0),
        few_groups t lent_encode two.0,
        enough_tags t lent_encode three.0,
        enough_room t lent_encode four.0,
      )

  pub encoded_all : (is : Table t) {written : ℕ} {tags' bytes' : List ℕ} → first_of t lent_encode encoding_rows ≡ 0
      → RunsEncode t values tags bytes (length values / 4) written tags' bytes' → encoded (counted (Ok written)) tags' bytes' ≡ encoding t values tags bytes
  unfolding encoding
  encoded_all is {written} {tags'} {bytes'} e x =
      let a = allowed e in
      let n : ℕ = length values / 4 in
      let few : length (bytes_of t values) ≤ length bytes = omega (arith, groups_most t is n values (omega (arith, a.0)), a.3) in
      let all = encodes_all t is x a.0 a.2 few in
      ap₂ (λ (w : ℕ) (l : List ℕ). encoded (accepted w 0) l bytes') all.written_is all.tags_are
      ∙ ap (encoded (accepted (length (bytes_of t values)) 0) (tags_of t n values ++ drop n tags)) all.bytes_are
      ∙ sym (ap (λ (k : ℕ). unless_refused k
      (encoded (accepted (length (bytes_of t values)) 0) (tags_of t n values ++ drop n tags) (bytes_of t values ++ drop (length (bytes_of t values)) bytes))
      (encoded (refused k) tags bytes)) e)

-- the same of the steps, whose count is that of the values
pub encoded_deltas_all : (t : List ℕ) (is : Table t) (m p : ℕ) (values tags bytes : List ℕ) {written : ℕ} {tags' bytes' : List ℕ}
    → first_of t (lent_to_encode (length (steps m p values)) tags (length bytes)) encoding_rows ≡ 0
    → RunsEncode t (steps m p values) tags bytes (length values / 4) written tags' bytes'
    → encoded (counted (Ok written)) tags' bytes' ≡ encoding_deltas t m p values tags bytes
encoded_deltas_all t is m p values tags bytes {written} {tags'} {bytes'} e x =
    encoded_all t (steps m p values) tags bytes is e
    (subst (λ (n : ℕ). RunsEncode t (steps m p values) tags bytes n written tags' bytes') (sym (ap (λ (n : ℕ). n / 4) (steps-length m p values))) x)

-- ---- tightness

module _ (t tags bytes : List ℕ) where
  pub testing-refused : (r : Result (Option Place) Refusal) (why : Refusal) → IsErrAnd r (λ e. e ≡ why)
      → first_of t (lent_to_read tags (length bytes)) tightness_rows ≡ refusal_number why → tested r ≡ testing t tags bytes
  unfolding testing
  testing-refused r why is e = handed_on tested r why is ∙ sym (unless_refused_lem _ why _ _ e ∙ ap untested e)

  pub tested_all : first_of t (lent_to_read tags (length bytes)) tightness_rows ≡ 0 → tightness_of t tags bytes ≡ testing t tags bytes
  unfolding testing
  tested_all e = sym (ap (λ (n : ℕ). unless_refused n (tightness_of t tags bytes) (untested n)) e)

-- where row 6 does not apply
pub data_there : (t : List ℕ) (l : Lent) → first_of t l missing_row ≡ 0 → data_len t l.tags ≤ l.bytes
data_there t l e = enough_data t l (passed t l missing_data [] e).0
