-- What each public call answers and what it leaves in every buffer that it was lent, on any input, over the width table t and the modulus m.
use Rattle.std.specs.Prelude.{List, [], ◌∷◌, ◌++◌, ℕ, zero, suc, ◌*◌, ◌/◌, ◌%◌, eqb, length, take, drop}
use Rattle.packed.specs.Format.{pick, column_widths, data_len, le_value, stored, short_width, tags_of, bytes_of, steps, walked, wrapping_sum}
use Rattle.packed.specs.Refusals.{lent_to_encode, lent_to_decode, lent_to_read, first_of, encoding_rows, decoding_rows, skipping_rows, tightness_rows, length_rows}

-- Document 01's number (0: accepted), count and sum.
pub record Answer : Type 0 where
  pub number : ℕ
  pub count : ℕ
  pub sum : ℕ

-- "Every refusal returns its number, count 0 and sum 0"
abbrev pub refused : ℕ → Answer
refused n = record { number = n; count = 0; sum = 0 }

abbrev pub accepted : ℕ → ℕ → Answer
accepted count sum = record { number = 0; count = count; sum = sum }

-- what holds where a refusal's number is 0, and what holds where it is not
abbrev pub unless_refused {ℓ} : {A : Type ℓ} → ℕ → A → A → A
unless_refused zero a b = a
unless_refused (suc n) a b = b

-- ---- encoding

-- What an encoding call leaves: its answer, the tags and the data.
pub record Encoded : Type 0 where
  pub answer : Answer
  pub tags : List ℕ
  pub bytes : List ℕ

abbrev pub encoded : Answer → List ℕ → List ℕ → Encoded
encoded a tags bytes = record { answer = a; tags = tags; bytes = bytes }

-- "On success encoding writes the first (groups) tag bytes and the first (written) data bytes; all bytes behind them keep what they held."
unfoldable pub encoding : List ℕ → List ℕ → List ℕ → List ℕ → Encoded
encoding t values tags bytes =
    let refusal : ℕ = first_of t (lent_to_encode (length values) tags (length bytes)) encoding_rows in
    let groups : ℕ = length values / 4 in
    let written : ℕ = length (bytes_of t values) in
    unless_refused refusal
    (encoded (accepted written 0) (tags_of t groups values ++ drop groups tags) (bytes_of t values ++ drop written bytes))
    (encoded (refused refusal) tags bytes)

-- "Deltas": the steps are encoded.
abbrev pub encoding_deltas : List ℕ → ℕ → ℕ → List ℕ → List ℕ → List ℕ → Encoded
encoding_deltas t m start values tags bytes = encoding t (steps m start values) tags bytes

-- ---- decoding

-- What a decoding call leaves: its answer and the values.
pub record Decoded : Type 0 where
  pub answer : Answer
  pub values : List ℕ

abbrev pub decoded : Answer → List ℕ → Decoded
decoded a values = record { answer = a; values = values }

-- "Decoding fills all values": with what is made of the stored numbers.
unfoldable pub decoding_by : (List ℕ → List ℕ) → List ℕ → List ℕ → List ℕ → List ℕ → Decoded
decoding_by make t tags bytes values =
    let refusal : ℕ = first_of t (lent_to_decode (length values) tags (length bytes)) decoding_rows in
    unless_refused refusal (decoded (accepted (data_len t tags) 0) (make (stored t tags bytes))) (decoded (refused refusal) values)

abbrev pub decoding : List ℕ → List ℕ → List ℕ → List ℕ → Decoded
decoding t tags bytes values = decoding_by (λ (ns : List ℕ). ns) t tags bytes values

abbrev pub decoding_deltas : List ℕ → ℕ → ℕ → List ℕ → List ℕ → List ℕ → Decoded
decoding_deltas t m start tags bytes values = decoding_by (walked m start) t tags bytes values

-- ---- skipping and measuring

-- "`skip_deltas` gives bytes read and the wrapping sum of all stored numbers, without any start."
unfoldable pub skipping : List ℕ → ℕ → List ℕ → List ℕ → Answer
skipping t m tags bytes =
    let refusal : ℕ = first_of t (lent_to_read tags (length bytes)) skipping_rows in
    unless_refused refusal (accepted (data_len t tags) (wrapping_sum m (stored t tags bytes))) (refused refusal)

unfoldable pub measuring : List ℕ → List ℕ → Answer
measuring t tags =
    let refusal : ℕ = first_of t (lent_to_read tags 0) length_rows in
    unless_refused refusal (accepted (data_len t tags) 0) (refused refusal)

-- ---- tightness

-- How many numbers, from the front, are stored at their shortest width.
abbrev pub tight_run : List ℕ → List ℕ → List ℕ → ℕ
tight_run t [] bytes = 0
tight_run t (w ∷ ws) bytes = pick (eqb w (short_width t (le_value (take w bytes)))) (suc (tight_run t ws (drop w bytes))) 0

-- "refused (2 or 6), tight, or loose with the place, as group number and position 0 to 3"
pub data Tightness : Type 0 where
  untested : ℕ → Tightness
  tight : Tightness
  loose : ℕ → ℕ → Tightness

-- "of the first stored number whose width is not the shortest": it stands behind the run of those whose width is.
unfoldable pub tightness_of : List ℕ → List ℕ → List ℕ → Tightness
tightness_of t tags bytes =
    let run : ℕ = tight_run t (column_widths t tags) bytes in
    pick (eqb run (4 * length tags)) tight (loose (run / 4) (run % 4))

unfoldable pub testing : List ℕ → List ℕ → List ℕ → Tightness
testing t tags bytes =
    let refusal : ℕ = first_of t (lent_to_read tags (length bytes)) tightness_rows in
    unless_refused refusal (tightness_of t tags bytes) (untested refusal)
