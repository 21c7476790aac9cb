-- What the runs over a column's groups promise, over the width table t and the modulus m: the groups from `from` up to `to`, whose bytes
-- start at `at`. `slice from to tags` is the library's: the tags from `from` up to `to`.
use Rattle.std.specs.Prelude.{◌≡◌, List, ℕ, ◌+◌, ◌-◌, ◌*◌, ◌%◌, ◌≤◌, ◌<◌, length, take, drop}
use Rattle.std.proofs.lemmas.List.Edits.{sets}
use Rattle.std.proofs.Math.Seq.{slice}
use Rattle.packed.specs.Format.{total, data_len, stored, tags_of, bytes_of, walked}
use Rattle.packed.specs.Stages.{widest_group, eights, staged, tail_takes, tail_copied}

-- Each group of the run has a whole widest group's bytes before the end of the data.
pub record Windows (t tags bytes : List ℕ) (from to at : ℕ) : Type 0 where
  pub forward : from ≤ to
  pub tags_there : to ≤ length tags
  pub there : (k : ℕ) → from ≤ k → k < to → at + data_len t (slice from k tags) + widest_group t ≤ length bytes

-- A run that decodes: where it ended in the data, and the values, of which its own were stored and no other.
pub record Runs (t tags bytes before : List ℕ) (from to at r_read : ℕ) (after : List ℕ) : Type 0 where
  pub read : r_read ≡ at + data_len t (slice from to tags)
  pub values : after ≡ sets before (4 * from) (stored t (slice from to tags) (drop at bytes))

-- The same from p on, by adding the numbers back; last is the last value, or p.
pub record RunsDeltas (t tags bytes before : List ℕ) (m from to at p r_read r_last : ℕ) (after : List ℕ) : Type 0 where
  pub read : r_read ≡ at + data_len t (slice from to tags)
  pub last : r_last ≡ (p + total (stored t (slice from to tags) (drop at bytes))) % m
  pub values : after ≡ sets before (4 * from) (walked m p (stored t (slice from to tags) (drop at bytes)))

-- A run that skips: where it ended, and the numbers added to p.
pub record RunsSum (t tags bytes : List ℕ) (m from to at p r_read r_sum : ℕ) : Type 0 where
  pub read : r_read ≡ at + data_len t (slice from to tags)
  pub sum : r_sum ≡ (p + total (stored t (slice from to tags) (drop at bytes))) % m

-- A run that encodes the first n groups of the numbers ds.
pub record RunsEncode (t ds tags bytes : List ℕ) (n r_written : ℕ) (tags' bytes' : List ℕ) : Type 0 where
  pub written : r_written ≡ length (bytes_of t (take (4 * n) ds))
  pub tags_are : tags' ≡ sets tags 0 (tags_of t n ds)
  pub bytes_are : bytes' ≡ sets bytes 0 (bytes_of t (take (4 * n) ds))

-- Where the stages end: groups and bytes of the eight-tag stage, of both, what the tail takes and what is copied for it.
pub record Ends (t tags bytes : List ℕ) (r_eights r_eights_read r_groups r_read r_taken r_copied : ℕ) : Type 0 where
  pub eights_are : r_eights ≡ eights t tags (length bytes)
  pub eights_read : r_eights_read ≡ data_len t (take r_eights tags)
  pub groups_are : r_groups ≡ staged t tags (length bytes)
  pub read : r_read ≡ data_len t (take r_groups tags)
  pub taken : r_taken ≡ tail_takes t tags (length bytes)
  pub copied : r_copied ≡ tail_copied t tags (length bytes)

-- The bytes of the tags from a up to b, which are at most so many widest groups'.
pub record Measured (t tags : List ℕ) (a b r_len : ℕ) : Type 0 where
  pub forward : a ≤ b
  pub inside : b ≤ length tags
  pub len : r_len ≡ data_len t (slice a b tags)
  pub most : r_len ≤ widest_group t * (b - a)

-- Where a stage that starts at the first tag ends: how many groups, and their bytes, which are there.
pub record EndsAt (t tags bytes : List ℕ) (groups r_groups r_read : ℕ) : Type 0 where
  pub groups_are : r_groups ≡ groups
  pub inside : r_groups ≤ length tags
  pub read : r_read ≡ data_len t (take r_groups tags)
  pub room : r_read ≤ length bytes

-- What is left for the tail: its bytes are there, and less than a whole widest group's are left.
pub record Tail (t tags bytes : List ℕ) (groups at : ℕ) : Type 0 where
  pub inside : groups ≤ length tags
  pub there : at + data_len t (slice groups (length tags) tags) ≤ length bytes
  pub short : length bytes - at < widest_group t
