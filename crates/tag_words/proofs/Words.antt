-- Laws of what is done to the four bytes of a number side by side. Assumes nothing.
use mathlib.Core.Path.{◌≡◌, ap, ap₂, sym, ◌∙◌}
use Prim.Native.Nat.{ℕ, ◌+◌, ◌*◌, ◌/◌, ◌%◌, ◌^◌, ◌≤◌, ◌<◌}
use native.Mathlib.Nat.{lt_of_le_of_lt}
use native.Mathlib.Omega.{arith}
use lib.Bits.{bit_and, and_block, and_zero_r, and_le_l, and_le_r, and_mask}
use lib.Dec.{leb, leb→le, lit≤}
use Rattle.packed.proofs.Table.{at}
use Rattle.tag_words.specs.Words.{word, Bytewise, uppers_of, pairs_of, halves_of, SumsHalves}

-- a byte and what lies above it
and_byte : (x y a b : ℕ) → a < 256 → b < 256 → bit_and (a + 256 * x) (b + 256 * y) ≡ bit_and a b + 256 * bit_and x y
and_byte x y a b ha hb =
    let turn : (u v : ℕ) → u + 256 * v ≡ v * 2 ^ 8 + u = λ u v. omega arith in
    ap₂ bit_and (turn a x) (turn b y) ∙ and_block 8 x y a b ha hb ∙ sym (turn (bit_and a b) (bit_and x y))

-- two words, byte by byte
pub and_words : (a b c d e f g h : ℕ) → a < 256 → b < 256 → c < 256 → e < 256 → f < 256 → g < 256
    → bit_and (word a b c d) (word e f g h) ≡ word (bit_and a e) (bit_and b f) (bit_and c g) (bit_and d h)
and_words a b c d e f g h ha hb hc he hf hg =
    and_byte (b + 256 * (c + 256 * d)) (f + 256 * (g + 256 * h)) a e ha he
    ∙ ap (λ (n : ℕ). bit_and a e + 256 * n) (and_byte (c + 256 * d) (g + 256 * h) b f hb hf)
    ∙ ap (λ (n : ℕ). bit_and a e + 256 * (bit_and b f + 256 * n)) (and_byte d h c g hc hg)

-- what lies above j bits does not pass a mask of j bits
above : (j u r m : ℕ) → r < 2 ^ j → m < 2 ^ j → bit_and (u * 2 ^ j + r) m ≡ bit_and r m
above j u r m hr hm =
    let none : (n : ℕ) → 0 * 2 ^ j + n ≡ n = λ n. omega arith in
    ap (bit_and (u * 2 ^ j + r)) (sym (none m)) ∙ and_block j u 0 r m hr hm ∙ ap (λ (n : ℕ). n * 2 ^ j + bit_and r m) (and_zero_r u)
    ∙ none (bit_and r m)

-- Moved down by one, two or four bits, a byte takes the low bits of the byte above it at its top.
halved : (a b c d x : ℕ) → a < 256 → b < 256 → c < 256 → d < 256 → x ≡ word a b c d
    → x / 2 ≡ word (b % 2 * 2 ^ 7 + a / 2) (c % 2 * 2 ^ 7 + b / 2) (d % 2 * 2 ^ 7 + c / 2) (d / 2)
halved a b c d x ha hb hc hd e = omega arith

quartered : (a b c d x : ℕ) → a < 256 → b < 256 → c < 256 → d < 256 → x ≡ word a b c d
    → x / 4 ≡ word (b % 4 * 2 ^ 6 + a / 4) (c % 4 * 2 ^ 6 + b / 4) (d % 4 * 2 ^ 6 + c / 4) (d / 4)
quartered a b c d x ha hb hc hd e = omega arith

sixteenth : (a b c d x : ℕ) → a < 256 → b < 256 → c < 256 → d < 256 → x ≡ word a b c d
    → x / 16 ≡ word (b % 16 * 2 ^ 4 + a / 16) (c % 16 * 2 ^ 4 + b / 16) (d % 16 * 2 ^ 4 + c / 16) (d / 16)
sixteenth a b c d x ha hb hc hd e = omega arith

-- A mask of j bits in each byte, of bytes that have something above j bits: the three lower ones lose it, the fourth has nothing.
masked_words : (j m y u v w p q r s : ℕ) → m < 2 ^ j → m < 256 → p < 2 ^ j → q < 2 ^ j → r < 2 ^ j
    → u * 2 ^ j + p < 256 → v * 2 ^ j + q < 256 → w * 2 ^ j + r < 256
    → y ≡ word (u * 2 ^ j + p) (v * 2 ^ j + q) (w * 2 ^ j + r) s
    → bit_and y (word m m m m) ≡ word (bit_and p m) (bit_and q m) (bit_and r m) (bit_and s m)
masked_words j m y u v w p q r s hj hm hp hq hr hu hv hw e =
    ap (λ (n : ℕ). bit_and n (word m m m m)) e ∙ and_words _ _ _ s m m m m hu hv hw hm hm hm
    ∙ ap (λ (n : ℕ). word n (bit_and (v * 2 ^ j + q) m) (bit_and (w * 2 ^ j + r) m) (bit_and s m)) (above j u p m hp hj)
    ∙ ap (λ (n : ℕ). word (bit_and p m) n (bit_and (w * 2 ^ j + r) m) (bit_and s m)) (above j v q m hq hj)
    ∙ ap (λ (n : ℕ). word (bit_and p m) (bit_and q m) n (bit_and s m)) (above j w r m hr hj)

-- the upper bits of the fields
pub uppers_bytewise : (x : ℕ) → Bytewise uppers_of x (bit_and (x / 2) 1431655765)
uppers_bytewise x a b c d ha hb hc hd e =
    masked_words 7 85 (x / 2) (b % 2) (c % 2) (d % 2) (a / 2) (b / 2) (c / 2) (d / 2) (lit≤ tt) (lit≤ tt) (omega arith) (omega arith) (omega arith)
    (omega arith) (omega arith) (omega arith) (halved a b c d x ha hb hc hd e)

-- the fields added by twos
pub pairs_bytewise : (x : ℕ) → Bytewise pairs_of x (bit_and x 858993459 + bit_and (x / 4) 858993459)
pairs_bytewise x a b c d ha hb hc hd e =
    let low : bit_and x 858993459 ≡ word (bit_and a 51) (bit_and b 51) (bit_and c 51) (bit_and d 51) =
    ap (λ (n : ℕ). bit_and n 858993459) e ∙ and_words a b c d 51 51 51 51 ha hb hc (lit≤ tt) (lit≤ tt) (lit≤ tt) in
    let high : bit_and (x / 4) 858993459 ≡ word (bit_and (a / 4) 51) (bit_and (b / 4) 51) (bit_and (c / 4) 51) (bit_and (d / 4) 51) =
    masked_words 6 51 (x / 4) (b % 4) (c % 4) (d % 4) (a / 4) (b / 4) (c / 4) (d / 4) (lit≤ tt) (lit≤ tt) (omega arith) (omega arith) (omega arith)
    (omega arith) (omega arith) (omega arith) (quartered a b c d x ha hb hc hd e) in
    omega (arith, low, high)

split_byte : (n p q : ℕ) → p < 256 → n ≡ p + 256 * q → n % 256 + n / 256 ≡ p + q
split_byte n p q h e = omega arith

split_half : (n p q : ℕ) → p < 65536 → n ≡ p + 65536 * q → n % 65536 + n / 65536 ≡ p + q
split_half n p q h e = omega arith

folded : (p q r s y z : ℕ) → p ≤ 30 → q ≤ 30 → r ≤ 30 → y ≡ word p q r s → z ≡ y % 65536 + y / 65536 → z % 256 + z / 256 ≡ p + q + r + s
folded p q r s y z hp hq hr ey ez =
    split_byte z (p + r) (q + s) (omega (arith, hp, hr)) (ez ∙ split_half y (p + 256 * q) (r + 256 * s) (omega (arith, hp, hq)) (ey ∙ omega arith) ∙ omega arith)
    ∙ omega arith

-- the two halves of a byte
halves_are : (n : ℕ) → n < 256 → bit_and n 15 + bit_and (n / 16) 15 ≡ halves_of n
halves_are n h = omega (arith, and_mask n 4, and_mask (n / 16) 4)

halves_most : (n : ℕ) → n < 256 → halves_of n ≤ 30
halves_most n h = omega arith

add_words : (a b c d e f g h : ℕ) → word a b c d + word e f g h ≡ word (a + e) (b + f) (c + g) (d + h)
add_words a b c d e f g h = omega arith

-- the halves added byte by byte, then the upper two bytes to the lower two, then the upper to the lower
pub sums_halves : (x y z : ℕ) → y ≡ bit_and x 252645135 + bit_and (x / 16) 252645135 → z ≡ y % 65536 + y / 65536 → SumsHalves x (z % 256 + z / 256)
sums_halves x y z ey ez a b c d ha hb hc hd e =
    let low : bit_and x 252645135 ≡ word (bit_and a 15) (bit_and b 15) (bit_and c 15) (bit_and d 15) =
    ap (λ (n : ℕ). bit_and n 252645135) e ∙ and_words a b c d 15 15 15 15 ha hb hc (lit≤ tt) (lit≤ tt) (lit≤ tt) in
    let high : bit_and (x / 16) 252645135 ≡ word (bit_and (a / 16) 15) (bit_and (b / 16) 15) (bit_and (c / 16) 15) (bit_and (d / 16) 15) =
    masked_words 4 15 (x / 16) (b % 16) (c % 16) (d % 16) (a / 16) (b / 16) (c / 16) (d / 16) (lit≤ tt) (lit≤ tt) (omega arith) (omega arith) (omega arith)
    (omega arith) (omega arith) (omega arith) (sixteenth a b c d x ha hb hc hd e) in
    let sum : y ≡ word (halves_of a) (halves_of b) (halves_of c) (halves_of d) =
    ey ∙ ap₂ (λ (m n : ℕ). m + n) low high ∙ add_words (bit_and a 15) (bit_and b 15) (bit_and c 15) (bit_and d 15) (bit_and (a / 16) 15) (bit_and (b / 16) 15) (bit_and (c / 16) 15) (bit_and (d / 16) 15)
    ∙ ap₂ (λ (m n : ℕ). m + 256 * n) (halves_are a ha) (ap₂ (λ (m n : ℕ). m + 256 * n) (halves_are b hb) (ap₂ (λ (m n : ℕ). m + 256 * n) (halves_are c hc) (halves_are d hd))) in
    folded (halves_of a) (halves_of b) (halves_of c) (halves_of d) y z (halves_most a ha) (halves_most b hb) (halves_most c hc) sum ez

-- What is done byte by byte to what was made byte by byte.
pub then : (f g : ℕ → ℕ) (x y z : ℕ) → ((b : ℕ) → b < 256 → f b < 256) → Bytewise f x y → Bytewise g y z → Bytewise (λ b. g (f b)) x z
then f g x y z small p q a b c d ha hb hc hd e = q (f a) (f b) (f c) (f d) (small a ha) (small b hb) (small c hc) (small d hd) (p a b c d ha hb hc hd e)

pub common : (f g : ℕ → ℕ) (x y z : ℕ) → ((b : ℕ) → b < 256 → f b < 256) → ((b : ℕ) → b < 256 → g b < 256) → Bytewise f x y → Bytewise g x z
    → Bytewise (λ b. bit_and (f b) (g b)) x (bit_and y z)
common f g x y z sf sg p q a b c d ha hb hc hd e =
    ap₂ bit_and (p a b c d ha hb hc hd e) (q a b c d ha hb hc hd e)
    ∙ and_words (f a) (f b) (f c) (f d) (g a) (g b) (g c) (g d) (sf a ha) (sf b hb) (sf c hc) (sg a ha) (sg b hb) (sg c hc)

pub added : (f g : ℕ → ℕ) (x y z : ℕ) → Bytewise f x y → Bytewise g x z → Bytewise (λ b. f b + g b) x (y + z)
added f g x y z p q a b c d ha hb hc hd e = omega (arith, p a b c d ha hb hc hd e, q a b c d ha hb hc hd e)

pub tripled : (f : ℕ → ℕ) (x y : ℕ) → Bytewise f x y → Bytewise (λ b. 3 * f b) x (3 * y)
tripled f x y p a b c d ha hb hc hd e = omega (arith, p a b c d ha hb hc hd e)

-- Four bytes that are at most m make at most four times m side by side.
pub most : (f : ℕ → ℕ) (m x y : ℕ) → ((b : ℕ) → b < 256 → f b ≤ m) → x < 4294967296 → Bytewise f x y → y ≤ word m m m m
most f m x y le small p =
    let a : ℕ = x % 256 in
    let b : ℕ = x / 256 % 256 in
    let c : ℕ = x / 65536 % 256 in
    let d : ℕ = x / 16777216 in
    omega (
      arith,
      le a (omega arith),
      le b (omega arith),
      le c (omega arith),
      le d (omega arith),
      p a b c d (omega arith) (omega arith) (omega arith) (omega arith) (omega arith),
    )

-- ---- the upper bits of the fields, and the bits of fields that have both

uppers_small : (b : ℕ) → b < 256 → uppers_of b < 256
uppers_small b h = omega (arith, and_le_r (b / 2) 85)

-- as functions of a tag
abbrev pub upper_pairs : ℕ → ℕ
upper_pairs tag = pairs_of (uppers_of tag)

abbrev pub full_pairs : ℕ → ℕ
full_pairs tag = pairs_of (bit_and tag (uppers_of tag))

pub upper_pairs_lem : (x u q : ℕ) → Bytewise uppers_of x u → Bytewise pairs_of u q → Bytewise upper_pairs x q
upper_pairs_lem x u q p r = then uppers_of pairs_of x u q uppers_small p r

pub full_pairs_lem : (x u q : ℕ) → Bytewise uppers_of x u → Bytewise pairs_of (bit_and x u) q → Bytewise full_pairs x q
full_pairs_lem x u q p r =
    then (λ b. bit_and b (uppers_of b)) pairs_of x (bit_and x u) q (λ b h. lt_of_le_of_lt (and_le_l b (uppers_of b)) h)
    (common (λ b. b) uppers_of x x u (λ b h. h) uppers_small (λ a b c d ha hb hc hd e. e) p) r

-- no sum of them passes a byte
pub pairs_most : (b : ℕ) → b < 256 → pairs_of b ≤ 102
pairs_most b h = omega (arith, and_le_r b 51, and_le_r (b / 4) 51)

pub upper_most : (b : ℕ) → b < 256 → upper_pairs b ≤ 34
upper_most b h = leb→le (upper_pairs b) 34 (at 256 (λ n. leb (upper_pairs n) 34) tt b h)

pub full_most : (b : ℕ) → b < 256 → full_pairs b ≤ 34
full_most b h = leb→le (full_pairs b) 34 (at 256 (λ n. leb (full_pairs n) 34) tt b h)
