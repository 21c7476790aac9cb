-- What the tables hold from which the groups of the first stage are decoded, over the width table t.
use Rattle.std.specs.Prelude.{◌≡◌, List, [], ◌∷◌, ℕ, ◌+◌, ◌*◌, ◌/◌, ◌%◌, ◌<◌, get_or, take}
use Rattle.std.specs.Int.Bits.{bit_and}
use Rattle.packed.specs.Format.{total, widths}
use Rattle.tag_utils.specs.Tables.{masks}

-- Where the second, the third and the fourth number of a group begin, and where it ends: a byte each, low byte first.
abbrev pub place_of : List ℕ → ℕ
place_of ws = total (take 1 ws) + 256 * total (take 2 ws) + 65536 * total (take 3 ws) + 16777216 * total ws

abbrev pub Places : List ℕ → List ℕ → Type 0
Places t places = (tag : ℕ) → tag < 256 → get_or places tag 0 ≡ place_of (widths t tag)

-- The masks of a tag's four numbers, by half tags of two fields: the first field's at k times the half tag, the second's j behind it.
abbrev pub halves_of : ℕ → ℕ → List ℕ → ℕ → List ℕ
halves_of k j halves tag =
    get_or halves (k * (tag % 16)) 0 ∷ get_or halves (k * (tag % 16) + j) 0 ∷ get_or halves (k * (tag / 16)) 0 ∷ get_or halves (k * (tag / 16) + j) 0 ∷ []

abbrev pub Halves : List ℕ → ℕ → ℕ → List ℕ → Type 0
Halves t k j halves = (tag : ℕ) → tag < 256 → halves_of k j halves tag ≡ masks (widths t tag)

-- The same four side by side, each what two entries have in common: of the low half's row of four, and of the high half's, 16 rows behind.
abbrev pub common : List ℕ → ℕ → ℕ → ℕ
common sides low high = bit_and (get_or sides low 0) (get_or sides high 0)

abbrev pub sides_of : List ℕ → ℕ → ℕ → List ℕ
sides_of sides low high = common sides low high ∷ common sides (low + 1) (high + 1) ∷ common sides (low + 2) (high + 2) ∷ common sides (low + 3) (high + 3) ∷ []

abbrev pub Sides : List ℕ → List ℕ → Type 0
Sides t sides = (tag : ℕ) → tag < 256 → sides_of sides (4 * (tag % 16)) (64 + 4 * (tag / 16)) ≡ masks (widths t tag)
