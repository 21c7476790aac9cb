-- What stores of whole words promise, over the width table t and the modulus m. A number is stored with all its bytes, and what is not its
-- own is covered by the number behind it, so that only what lies behind the last one is not as it was: n bytes at most.
use Rattle.std.specs.Prelude.{◌≡◌, List, ◌++◌, ℕ, zero, suc, ◌+◌, ◌-◌, ◌*◌, ◌/◌, ◌^◌, ◌≤◌, ◌<◌, length, take, drop, get_or}
use Rattle.std.specs.Int.Count.{count_leading_zeros}
use Rattle.std.proofs.lemmas.List.Edits.{sets}
use Rattle.packed.specs.Format.{le_bytes, tag_of, tags_of, bytes_of}
use Rattle.packed.specs.Group.{Shortest}
use Rattle.packed.specs.Stages.{widest_group}

-- own stands from `at` on, all before it is as it was, and so is all behind it but the next n.
pub record Lays (n : ℕ) (before : List ℕ) (at : ℕ) (own after : List ℕ) : Type 0 where
  pub same : length after ≡ length before
  pub front : take (at + length own) after ≡ take at before ++ own
  pub kept : drop (at + length own + n) after ≡ drop (at + length own + n) before

-- What the count of zero bytes in front of a number of w bytes tells: its shortest field and its width.
pub record FoundByZeros (t : List ℕ) (w zeros r_tag r_len : ℕ) : Type 0 where
  pub found : (v : ℕ) → v < 256 ^ w → count_leading_zeros (8 * w) v / 8 ≡ zeros → Shortest t w v r_tag r_len

-- What a whole word leaves behind its number at most: what the widest width has above the narrowest.
abbrev pub left_behind : List ℕ → ℕ
left_behind t = get_or t 3 0 - get_or t 0 0

-- One number of w bytes: its shortest field and width, and that many bytes.
pub record StoresWide (t : List ℕ) (w n value : ℕ) (before : List ℕ) (at r_tag r_len : ℕ) (after : List ℕ) : Type 0 where
  pub short : Shortest t w value r_tag r_len
  pub lays : Lays n before at (le_bytes r_len value) after

-- A group: its tag, how many bytes were written, and the bytes.
pub record EncodesWide (t : List ℕ) (n : ℕ) (group before : List ℕ) (at r_tag r_written : ℕ) (after : List ℕ) : Type 0 where
  pub tag : r_tag ≡ tag_of t group
  pub written : r_written ≡ length (bytes_of t group)
  pub lays : Lays n before at (bytes_of t group) after

-- Where no group has run, no byte behind has changed either.
abbrev pub excess : ℕ → ℕ → ℕ
excess n zero = 0
excess n (suc groups) = n

-- A run that encodes the first groups of the numbers ds.
pub record RunsWide (t : List ℕ) (n : ℕ) (ds tags bytes : List ℕ) (groups r_written : ℕ) (tags' bytes' : List ℕ) : Type 0 where
  pub written : r_written ≡ length (bytes_of t (take (4 * groups) ds))
  pub most : r_written ≤ widest_group t * groups
  pub tags_are : tags' ≡ sets tags 0 (tags_of t groups ds)
  pub lays : Lays (excess n groups) bytes 0 (bytes_of t (take (4 * groups) ds)) bytes'

-- A tag for each group of the values, and the bytes of the widest for each.
abbrev pub HasRoom : {E : Type 0} → List ℕ → List E → List ℕ → List ℕ → Type 0
HasRoom t values tags bytes = (length values / 4 ≤ length tags) × (widest_group t * (length values / 4) ≤ length bytes)

-- Where a run by whole words may end: what it leaves is covered by the groups behind it.
pub record Covers (t : List ℕ) (n : ℕ) (ds : List ℕ) (groups front : ℕ) : Type 0 where
  pub inside : front ≤ groups
  pub covered : excess n front ≤ length (bytes_of t (take (4 * (groups - front)) (drop (4 * front) ds)))
