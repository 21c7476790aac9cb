-- Document 01's refusal table. Its rows stand in order, each with its test; of a call's rows the first that applies gives the number.
use Rattle.std.specs.Prelude.{Bool, not, List, [], ◌∷◌, ℕ, ◌*◌, ◌/◌, ◌%◌, max, ltb, eqb, length}
use Rattle.packed.specs.Format.{pick, data_len}
use Rattle.packed.specs.Stages.{widest_group, tail_takes, tail_copied}

-- What the table speaks of: how many values a call was lent, how many groups count against the limit, the tags, and how many data bytes.
pub record Lent : Type 0 where
  pub values : ℕ
  pub groups : ℕ
  pub tags : List ℕ
  pub bytes : ℕ

-- "for encoding, values / 4; for decoding, values / 4 or tags; for the others, tags"
abbrev pub lent_to_encode : ℕ → List ℕ → ℕ → Lent
lent_to_encode values tags bytes = record { values = values; groups = values / 4; tags = tags; bytes = bytes }

abbrev pub lent_to_decode : ℕ → List ℕ → ℕ → Lent
lent_to_decode values tags bytes = record { values = values; groups = max (values / 4) (length tags); tags = tags; bytes = bytes }

abbrev pub lent_to_read : List ℕ → ℕ → Lent
lent_to_read tags bytes = record { values = 0; groups = length tags; tags = tags; bytes = bytes }

pub data Row : Type 0 where
  not_fours too_many_groups few_tags little_room other_tags missing_data tail_overrun : Row

abbrev pub number : Row → ℕ
number not_fours = 1
number too_many_groups = 2
number few_tags = 3
number little_room = 4
number other_tags = 5
number missing_data = 6
number tail_overrun = 7

abbrev pub group_limit : ℕ
group_limit = 16777216

abbrev pub applies : List ℕ → Lent → Row → Bool
-- 1: "the count of values lent is not a multiple of 4"
applies t l not_fours = not (eqb (l.values % 4) 0)
-- 2: "more than 16,777,216 groups"
applies t l too_many_groups = ltb group_limit l.groups
-- 3: "encoding: fewer tag bytes than groups"
applies t l few_tags = ltb (length l.tags) (l.values / 4)
-- 4: "encoding: fewer data bytes than 16 (u32) or 32 (u64) for each group, even if the result is shorter"
applies t l little_room = ltb l.bytes (widest_group t * (l.values / 4))
-- 5: "decoding: count of tags differs from values / 4"
applies t l other_tags = not (eqb (length l.tags) (l.values / 4))
-- 6: "decoding, skipping, tightness: `data_len` of the tags exceeds the data"
applies t l missing_data = ltb l.bytes (data_len t l.tags)
-- 7: "the tail takes more bytes than were copied to it"
applies t l tail_overrun = ltb (tail_copied t l.tags l.bytes) (tail_takes t l.tags l.bytes)

-- "given exactly when (and no earlier row for that call applies)"; 0 where none does.
abbrev pub first_of : List ℕ → Lent → List Row → ℕ
first_of t l [] = 0
first_of t l (r ∷ rs) = pick (applies t l r) (number r) (first_of t l rs)

-- Each call's own rows.
abbrev pub encoding_rows : List Row
encoding_rows = not_fours ∷ too_many_groups ∷ few_tags ∷ little_room ∷ []

abbrev pub decoding_rows : List Row
decoding_rows = not_fours ∷ too_many_groups ∷ other_tags ∷ missing_data ∷ tail_overrun ∷ []

abbrev pub skipping_rows : List Row
skipping_rows = too_many_groups ∷ missing_data ∷ tail_overrun ∷ []

abbrev pub tightness_rows : List Row
tightness_rows = too_many_groups ∷ missing_data ∷ []

-- "`data_len` knows only number 2"
abbrev pub length_rows : List Row
length_rows = too_many_groups ∷ []
