-- What one group's functions promise, over the width table t and the modulus m.
use Rattle.std.specs.Prelude.{◌≡◌, List, ℕ, ◌≤◌, ◌<◌, length, drop}
use Rattle.std.proofs.lemmas.List.Edits.{sets}
use Rattle.packed.specs.Format.{total, widths, numbers, shortest, short_width, tag_of, bytes_of, walked, wrapping_sum}

-- The field and the width of one number: the shortest. A field is below 4, and no width is above w.
pub record Shortest (t : List ℕ) (w value r_tag r_len : ℕ) : Type 0 where
  pub tag : r_tag ≡ shortest t value
  pub len : r_len ≡ short_width t value
  pub field : r_tag < 4
  pub width : r_len ≤ w

-- A group encoded at a place of the output: its tag, how many bytes were written, and the output, in which no other byte changed.
pub record Encodes (t group before : List ℕ) (at r_tag r_written : ℕ) (after : List ℕ) : Type 0 where
  pub tag : r_tag ≡ tag_of t group
  pub written : r_written ≡ length (bytes_of t group)
  pub output : after ≡ sets before at (bytes_of t group)

-- A group decoded at a place of the input: how many bytes were read, and the four numbers.
pub record Decodes (t input : List ℕ) (at r_tag r_read : ℕ) (r_group : List ℕ) : Type 0 where
  pub read : r_read ≡ total (widths t r_tag)
  pub group : r_group ≡ numbers (widths t r_tag) (drop at input)

-- The same, with the numbers added back from p on.
pub record DecodesDeltas (t input : List ℕ) (m at r_tag p r_read : ℕ) (r_group : List ℕ) : Type 0 where
  pub read : r_read ≡ total (widths t r_tag)
  pub group : r_group ≡ walked m p (numbers (widths t r_tag) (drop at input))

-- A group skipped: how many bytes were read, and the wrapping sum of its four numbers.
pub record Skips (t input : List ℕ) (m at r_tag r_read r_sum : ℕ) : Type 0 where
  pub read : r_read ≡ total (widths t r_tag)
  pub sum : r_sum ≡ wrapping_sum m (numbers (widths t r_tag) (drop at input))
