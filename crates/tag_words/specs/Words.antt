-- Four tags put together in one number, and what is done to each of its four bytes alone.
use Rattle.std.specs.Prelude.{◌≡◌, List, ℕ, ◌+◌, ◌*◌, ◌/◌, ◌%◌, ◌<◌}
use Rattle.std.specs.Int.Bits.{bit_and}
use Rattle.packed.specs.Format.{widths, total}

-- four bytes put together, the first in the low byte
abbrev pub word : ℕ → ℕ → ℕ → ℕ → ℕ
word a b c d = a + 256 * (b + 256 * (c + 256 * d))

-- y has f of each of the four bytes of x
abbrev pub Bytewise : (ℕ → ℕ) → ℕ → ℕ → Type 0
Bytewise f x y = (a b c d : ℕ) → a < 256 → b < 256 → c < 256 → d < 256 → x ≡ word a b c d → y ≡ word (f a) (f b) (f c) (f d)

-- the upper bit of each of a tag's four fields, in the place of the lower
abbrev pub uppers_of : ℕ → ℕ
uppers_of tag = bit_and (tag / 2) 85

-- in each half of a byte the sum of its two fields
abbrev pub pairs_of : ℕ → ℕ
pairs_of tag = bit_and tag 51 + bit_and (tag / 4) 51

-- the sum of the two halves of a byte
abbrev pub halves_of : ℕ → ℕ
halves_of b = b % 16 + b / 16

-- r is the sum of the halves of the four bytes of x
abbrev pub SumsHalves : ℕ → ℕ → Type 0
SumsHalves x r = (a b c d : ℕ) → a < 256 → b < 256 → c < 256 → d < 256 → x ≡ word a b c d → r ≡ halves_of a + halves_of b + halves_of c + halves_of d

-- the bytes of the four groups whose tags are put together in x, over the width table t
abbrev pub lengths4 : List ℕ → ℕ → ℕ
lengths4 t x = total (widths t (x % 256)) + total (widths t (x / 256 % 256)) + total (widths t (x / 65536 % 256)) + total (widths t (x / 16777216))
