-- Where the decoder's three stages end, from the tags and the count of data bytes alone: what row 7 of the refusal table speaks of.
-- Request E4 takes row 7 away, and these definitions with it.
use Rattle.std.specs.Prelude.{List, [], ◌∷◌, ℕ, zero, suc, ◌+◌, ◌-◌, ◌*◌, ◌/◌, leb, length, get_or, take, drop}
use Rattle.packed.specs.Format.{pick, total, widths, data_len}

-- "16 or 32 bytes": four numbers of the widest width.
abbrev pub widest_group : List ℕ → ℕ
widest_group t = 4 * get_or t 3 0

-- "slack 12, 16, 28 for 1234, 0124, 1248": what the widest group has above the narrowest.
abbrev pub slack : List ℕ → ℕ
slack t = 4 * (get_or t 3 0 - get_or t 0 0)

-- "eight tags at once while the bytes plus slack are there": how many tags are so read, of at most n times eight. left is the count of
-- bytes that are there.
abbrev pub eights_from : List ℕ → ℕ → List ℕ → ℕ → ℕ
eights_from t zero tags left = 0
eights_from t (suc n) tags left =
    pick (leb (data_len t (take 8 tags) + slack t) left) (8 + eights_from t n (drop 8 tags) (left - data_len t (take 8 tags))) 0

unfoldable pub eights : List ℕ → List ℕ → ℕ → ℕ
eights t tags left = eights_from t (length tags / 8) tags left

-- "then single tags while 16 or 32 bytes remain"
abbrev pub singles : List ℕ → List ℕ → ℕ → ℕ
singles t [] left = 0
singles t (tag ∷ tags) left = pick (leb (widest_group t) left) (suc (singles t tags (left - total (widths t tag)))) 0

-- Both stages, one after the other.
unfoldable pub staged : List ℕ → List ℕ → ℕ → ℕ
staged t tags left = eights t tags left + singles t (drop (eights t tags left) tags) (left - data_len t (take (eights t tags left) tags))

-- "then the rest from a zeroed 64-byte scratch": what the rest takes, and what is copied for it. No tags left, nothing copied.
unfoldable pub tail_takes : List ℕ → List ℕ → ℕ → ℕ
tail_takes t tags left = data_len t (drop (staged t tags left) tags)

abbrev pub where_any : List ℕ → ℕ → ℕ
where_any [] n = 0
where_any (tag ∷ tags) n = n

unfoldable pub tail_copied : List ℕ → List ℕ → ℕ → ℕ
tail_copied t tags left = where_any (drop (staged t tags left) tags) (left - data_len t (take (staged t tags left) tags))
