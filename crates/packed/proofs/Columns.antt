-- What runs over a column read: nothing run yet, one group, a run behind a run, and the tail from a scratch. Assumes nothing.
use mathlib.Core.Path.{◌≡◌, refl, ap, ap₂, sym, ◌∙◌, subst}
use mathlib.Core.List.{List, [], ◌∷◌, ◌++◌, append-nil}
use Prim.Native.Nat.{ℕ, suc, ◌+◌, ◌-◌, ◌*◌, ◌≤◌, ◌<◌}
use native.Mathlib.Nat.{add-zero, zero-add, lt-suc_self}
use native.Mathlib.Numerals.{add-one}
use native.Mathlib.Omega.{arith}
use lib.ListN.{length, take, drop, get_or, length-drop, length-append, replicate}
use lib.Seq.{sets, sets-eq, take-append-le, slice, slice_empty, slice-cons, length-slice, length-take-le, take-add, drop-drop, drop_at, drop-append-le}
use Rattle.packed.specs.Format.{widths, column_widths, total, data_len, numbers, stored}
use Rattle.packed.specs.Column.{Tail}
use Rattle.packed.specs.Stages.{widest_group}
use Rattle.packed.proofs.Numbers.{numbers-length, numbers_same, data_len-append, stored-append}
use Rattle.packed.proofs.Widths.{widths-length}

-- ---- slices

pub slice_join : (a b c : ℕ) (l : List ℕ) → a ≤ b → b ≤ c → b ≤ length l → slice a c l ≡ slice a b l ++ slice b c l
slice_join a b c l h k n =
    let e : c ≡ b + (c - b) = omega arith in
    let whole : take c l ≡ take b l ++ take (c - b) (drop b l) = ap (λ (j : ℕ). take j l) e ∙ take-add b (c - b) l in
    let front : length (take b l) ≡ b = length-take-le b l n in
    let behind : slice b c l ≡ take (c - b) (drop b l) = ap (drop b) whole ∙ drop_at (take b l) (take (c - b) (drop b l)) b front in
    ap (drop a) whole ∙ drop-append-le a (take b l) (take (c - b) (drop b l)) (subst (λ (j : ℕ). a ≤ j) (sym front) h)
    ∙ ap (λ (r : List ℕ). slice a b l ++ r) (sym behind)

pub slice_one : (i : ℕ) (l : List ℕ) → i < length l → slice i (i + 1) l ≡ get_or l i 0 ∷ []
slice_one i l h = rw (add-one i) (slice-cons i (suc i) l 0 (lt-suc_self i) h ∙ ap (λ (r : List ℕ). get_or l i 0 ∷ r) (slice_empty (suc i) l))

-- ---- lengths and sums of what a run reads

pub column_length : (t tags : List ℕ) → length (column_widths t tags) ≡ 4 * length tags
column_length t [] = refl
column_length t (tag ∷ tags) =
    let e : length (widths t tag ++ column_widths t tags) ≡ 4 + 4 * length tags =
    length-append (widths t tag) (column_widths t tags) ∙ ap₂ (λ (x y : ℕ). x + y) (widths-length t tag) (column_length t tags) in
    omega arith

pub stored-length : (t tags s : List ℕ) → length (stored t tags s) ≡ 4 * length tags
unfolding stored
stored-length t tags s = numbers-length (column_widths t tags) s ∙ column_length t tags

one_len : (t : List ℕ) (tag : ℕ) → data_len t (tag ∷ []) ≡ total (widths t tag)
unfolding data_len
one_len t tag = ap total (append-nil (widths t tag))

one_stored : (t : List ℕ) (tag : ℕ) (s : List ℕ) → stored t (tag ∷ []) s ≡ numbers (widths t tag) s
unfolding stored
one_stored t tag s = ap (λ (ws : List ℕ). numbers ws s) (append-nil (widths t tag))

module _ (t tags bytes : List ℕ) where
  -- the part of a run from b to c, behind the part from a to b
  pub len_join : (a b c at mid end : ℕ) → a ≤ b → b ≤ c → b ≤ length tags → mid ≡ at + data_len t (slice a b tags)
      → end ≡ mid + data_len t (slice b c tags) → end ≡ at + data_len t (slice a c tags)
  len_join a b c at mid end h k n em ee =
      let e : data_len t (slice a c tags) ≡ data_len t (slice a b tags) + data_len t (slice b c tags) =
      ap (data_len t) (slice_join a b c tags h k n) ∙ data_len-append t (slice a b tags) (slice b c tags) in
      omega arith

  pub stored_join : (a b c at mid : ℕ) → a ≤ b → b ≤ c → b ≤ length tags → mid ≡ at + data_len t (slice a b tags)
      → stored t (slice a c tags) (drop at bytes) ≡ stored t (slice a b tags) (drop at bytes) ++ stored t (slice b c tags) (drop mid bytes)
  stored_join a b c at mid h k n em =
      let first : List ℕ = slice a b tags in
      ap (λ (l : List ℕ). stored t l (drop at bytes)) (slice_join a b c tags h k n) ∙ stored-append t first (slice b c tags) (drop at bytes)
      ∙ ap (λ (s : List ℕ). stored t first (drop at bytes) ++ stored t (slice b c tags) s)
      (drop-drop (data_len t first) at bytes ∙ ap (λ (j : ℕ). drop j bytes) (sym em))

  -- the values of the second part are stored where those of the first end
  pub stored_place : (a b at : ℕ) → a ≤ b → b ≤ length tags → 4 * a + length (stored t (slice a b tags) (drop at bytes)) ≡ 4 * b
  stored_place a b at h n =
      omega (arith, stored-length t (slice a b tags) (drop at bytes), length-slice a b tags n)

  -- one group
  pub one_read : (i at read : ℕ) → i < length tags → read ≡ total (widths t (get_or tags i 0)) → at + read ≡ at + data_len t (slice i (i + 1) tags)
  one_read i at read h e =
      ap (λ (n : ℕ). at + n) (e ∙ sym (one_len t (get_or tags i 0)) ∙ ap (data_len t) (sym (slice_one i tags h)))

  pub one_numbers : (i at : ℕ) → i < length tags → numbers (widths t (get_or tags i 0)) (drop at bytes) ≡ stored t (slice i (i + 1) tags) (drop at bytes)
  one_numbers i at h =
      sym (one_stored t (get_or tags i 0) (drop at bytes)) ∙ ap (λ (l : List ℕ). stored t l (drop at bytes)) (sym (slice_one i tags h))

  -- nothing run yet
  pub none_read : (a at : ℕ) → at ≡ at + data_len t (slice a a tags)
  unfolding data_len
  none_read a at = rw (slice_empty a tags) (sym (add-zero at))

  pub none_stored : (a at : ℕ) → stored t (slice a a tags) (drop at bytes) ≡ []
  unfolding stored
  none_stored a at = rw (slice_empty a tags)

-- ---- the tail, read from a scratch

-- the scratch holds what is left of the data, and then zeros, which do not count
pub scratch_same : (t part bytes scratch : List ℕ) (at : ℕ) → scratch ≡ sets (replicate 64 0) 0 (drop at bytes) → length (drop at bytes) ≤ 64
    → data_len t part ≤ length (drop at bytes) → stored t part scratch ≡ stored t part (drop at bytes)
unfolding data_len stored
scratch_same t part bytes scratch at e short fit =
    let rest : List ℕ = drop at bytes in
    let zeros : List ℕ = replicate 64 0 in
    let n : ℕ = total (column_widths t part) in
    let is : scratch ≡ rest ++ drop (0 + length rest) zeros = e ∙ sets-eq rest zeros 0 (rw (zero-add (length rest)) short) in
    numbers_same (column_widths t part) scratch rest
    (ap (take n) is ∙ take-append-le n rest (drop (0 + length rest) zeros) fit)

pub tail_same : (t tags bytes scratch : List ℕ) (g at : ℕ) → Tail t tags bytes g at → scratch ≡ sets (replicate 64 0) 0 (drop at bytes)
    → widest_group t ≤ 64 → stored t (slice g (length tags) tags) scratch ≡ stored t (slice g (length tags) tags) (drop at bytes)
tail_same t tags bytes scratch g at x e wide =
    scratch_same t (slice g (length tags) tags) bytes scratch at e (omega (arith, length-drop at bytes, x.short)) (omega (arith, length-drop at bytes, x.there))
