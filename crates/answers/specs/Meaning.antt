-- Document 01's number, count and sum for each case of an answer.
use Rattle.std.specs.Prelude.{List, [], ◌∷◌, ℕ, Option, Some, None, Result, Ok, Err}
use Rattle.packed.specs.Refusals.{Lent, Row, number, not_fours, too_many_groups, few_tags, little_room, other_tags, missing_data, tail_overrun}
use Rattle.packed.specs.Calls.{Answer, refused, accepted, untested}
use Rattle.packed.specs.Calls
use Rattle.answers.specs.declared.Refusal.{Refusal}
use Rattle.answers.specs.declared.Refusal.TheVariants.{NotFours, TooManyGroups, FewTags, LittleRoom, OtherTags, MissingData, TailOverrun}
use Rattle.answers.specs.declared.Skipped.{Skipped}
use Rattle.answers.specs.declared.Place.{Place}

-- The row that a refusal names.
abbrev pub row_of : Refusal → Row
row_of NotFours = not_fours
row_of TooManyGroups = too_many_groups
row_of FewTags = few_tags
row_of LittleRoom = little_room
row_of OtherTags = other_tags
row_of MissingData = missing_data
row_of TailOverrun = tail_overrun

abbrev pub refusal_number : Refusal → ℕ
refusal_number r = number (row_of r)

abbrev pub verdict_number : {A : Type 0} → Result A Refusal → ℕ
verdict_number (Ok _) = 0
verdict_number (Err r) = refusal_number r

-- What encoding, decoding and measuring answer.
abbrev pub counted : Result ℕ Refusal → Answer
counted (Ok n) = accepted n 0
counted (Err r) = refused (refusal_number r)

-- What skipping answers, where value is the number that a sum stands for.
abbrev pub skipped : {E : Type 0} → (E → ℕ) → Result (Skipped E) Refusal → Answer
skipped value (Ok s) = accepted s.read (value s.sum)
skipped value (Err r) = refused (refusal_number r)

-- What a search for a loose number finds, below the refusals.
abbrev pub place_of : Option Place → Calls.Tightness
place_of None = Calls.tight
place_of (Some p) = Calls.loose p.group p.position

abbrev pub tested : Result (Option Place) Refusal → Calls.Tightness
tested (Ok found) = place_of found
tested (Err r) = untested (refusal_number r)

-- What was lent, where only its counts are looked at.
abbrev pub lent_counts : ℕ → ℕ → Lent
lent_counts values groups = record { values = values; groups = groups; tags = []; bytes = 0 }

-- Which rows a check of counts looks at.
abbrev pub group_rows : List Row
group_rows = not_fours ∷ too_many_groups ∷ []

abbrev pub count_rows : List Row
count_rows = not_fours ∷ too_many_groups ∷ other_tags ∷ []

abbrev pub limit_row : List Row
limit_row = too_many_groups ∷ []

abbrev pub missing_row : List Row
missing_row = missing_data ∷ []

abbrev pub data_rows : List Row
data_rows = missing_data ∷ tail_overrun ∷ []
