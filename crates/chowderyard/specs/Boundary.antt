-- What the numbers of an exported answer say.
use Rattle.std.specs.Prelude.{ℕ}
use Rattle.packed.specs.Calls
use Rattle.packed.specs.Calls.{untested, tight, loose}
use Rattle.chowderyard.specs.declared.Answer.{Answer}
use Rattle.chowderyard.specs.declared.TightnessAnswer.{TightnessAnswer}

-- The number, count and sum of document 01.
abbrev pub answered : Answer → Calls.Answer
answered a = record { number = a.number; count = a.count; sum = a.sum }

-- The numbers of each outcome of the tightness check: what an outcome has no place for is 0.
abbrev pub told : Calls.Tightness → TightnessAnswer
told (untested n) = record { number = n; loose = 0; group = 0; position = 0 }
told tight = record { number = 0; loose = 0; group = 0; position = 0 }
told (loose g p) = record { number = 0; loose = 1; group = g; position = p }

-- The position that an outcome names, or 0.
abbrev pub position_of : Calls.Tightness → ℕ
position_of (untested n) = 0
position_of tight = 0
position_of (loose g p) = p
