-- The packed form, as document 01 has it, over a table of widths t and a modulus m. The three coders are the three tables with their moduli.
-- A number is a natural number, a byte one below 256. Quoted lines are document 01's.
use Rattle.std.specs.Prelude.{Bool, true, false, List, [], ◌∷◌, ◌++◌, ℕ, zero, suc, ◌+◌, ◌-◌, ◌*◌, ◌/◌, ◌%◌, ◌^◌, ltb, get_or, take, drop}

-- the first of two where a test holds, the second where it does not
abbrev pub pick {ℓ} : {A : Type ℓ} → Bool → A → A → A
pick true a b = a
pick false a b = b

-- ---- widths

-- "It has one tag byte; number i (0 to 3) owns bits 2i and 2i+1."
unfoldable pub field : ℕ → ℕ → ℕ
field tag i = tag / 4 ^ i % 4

-- "The field picks a width": the table's columns, widths in bytes by field.
abbrev pub t1234 : List ℕ
t1234 = 1 ∷ 2 ∷ 3 ∷ 4 ∷ []

abbrev pub t0124 : List ℕ
t0124 = 0 ∷ 1 ∷ 2 ∷ 4 ∷ []

abbrev pub t1248 : List ℕ
t1248 = 1 ∷ 2 ∷ 4 ∷ 8 ∷ []

-- "Coder1234 and Coder0124 over u32, Coder1248 over u64": where their numbers wrap.
abbrev pub m32 : ℕ
m32 = 2 ^ 32

abbrev pub m64 : ℕ
m64 = 2 ^ 64

-- "A group is four numbers held together": the widths of a tag's four numbers.
unfoldable pub widths : List ℕ → ℕ → List ℕ
widths t tag = get_or t (field tag 0) 0 ∷ get_or t (field tag 1) 0 ∷ get_or t (field tag 2) 0 ∷ get_or t (field tag 3) 0 ∷ []

-- "The numbers of all groups follow each other": the widths of all numbers of a list of tags.
abbrev pub column_widths : List ℕ → List ℕ → List ℕ
column_widths t [] = []
column_widths t (tag ∷ tags) = widths t tag ++ column_widths t tags

abbrev pub total : List ℕ → ℕ
total [] = 0
total (n ∷ ns) = n + total ns

-- "`data_len` of a tag list is the sum of four widths per tag."
unfoldable pub data_len : List ℕ → List ℕ → ℕ
data_len t tags = total (column_widths t tags)

-- ---- reading

-- "low byte first"
abbrev pub le_value : List ℕ → ℕ
le_value [] = 0
le_value (b ∷ bs) = b + 256 * le_value bs

-- "The numbers of all groups follow each other in the data, low byte first, with no gaps": the stored numbers of the given widths.
abbrev pub numbers : List ℕ → List ℕ → List ℕ
numbers [] «data» = []
numbers (w ∷ ws) «data» = le_value (take w «data») ∷ numbers ws (drop w «data»)

-- The stored numbers of a whole column.
unfoldable pub stored : List ℕ → List ℕ → List ℕ → List ℕ
stored t tags «data» = numbers (column_widths t tags) «data»

-- ---- writing

-- The w low bytes of a number, "low byte first".
abbrev pub le_bytes : ℕ → ℕ → List ℕ
le_bytes zero v = []
le_bytes (suc w) v = v % 256 ∷ le_bytes w (v / 256)

-- "The encoder takes the smallest width that holds the number": the first field of a table, from the smallest width up, whose width w
-- has v below 256 ^ w.
abbrev pub shortest : List ℕ → ℕ → ℕ
shortest [] v = 0
shortest (w ∷ ws) v = pick (ltb v (256 ^ w)) 0 (suc (shortest ws v))

-- That smallest width.
unfoldable pub short_width : List ℕ → ℕ → ℕ
short_width t v = get_or t (shortest t v) 0

-- The tag of a list of (four) numbers: number i has its shortest field at bits 2i and 2i+1.
abbrev pub tag_of : List ℕ → List ℕ → ℕ
tag_of t [] = 0
tag_of t (v ∷ vs) = shortest t v + 4 * tag_of t vs

-- The tags of the first n groups of four of a list of numbers.
abbrev pub tags_of : List ℕ → ℕ → List ℕ → List ℕ
tags_of t zero vs = []
tags_of t (suc n) vs = tag_of t (take 4 vs) ∷ tags_of t n (drop 4 vs)

-- The bytes of a list of numbers, each at its smallest width, "with no gaps".
abbrev pub bytes_of : List ℕ → List ℕ → List ℕ
bytes_of t [] = []
bytes_of t (v ∷ vs) = le_bytes (short_width t v) v ++ bytes_of t vs

-- ---- deltas

-- "each step is the value minus the one before it, wrapping at the width of the number; the first uses the given start": p is the one before.
abbrev pub steps : ℕ → ℕ → List ℕ → List ℕ
steps m p [] = []
steps m p (v ∷ vs) = (v + (m - p)) % m ∷ steps m v vs

-- "Decoding adds them back the same way."
abbrev pub walked : ℕ → ℕ → List ℕ → List ℕ
walked m p [] = []
walked m p (d ∷ ds) = (p + d) % m ∷ walked m ((p + d) % m) ds

-- "the wrapping sum of all stored numbers, without any start"
unfoldable pub wrapping_sum : ℕ → List ℕ → ℕ
wrapping_sum m ds = total ds % m
