-- Laws of stored numbers: lists of widths joined, lengths, and which bytes are read. Assumes nothing.
use mathlib.Core.Path.{◌≡◌, refl, ap, sym, ◌∙◌}
use mathlib.Core.List.{List, [], ◌∷◌, ◌++◌, append_assoc}
use Prim.Native.Nat.{ℕ, zero, suc, ◌+◌, ◌≤◌}
use native.Mathlib.Nat.{zero-add, add_assoc, le-add_right, le_trans, le_of_eq}
use lib.ListN.{length, take, drop}
use lib.Seq.{drop-drop, take-take, take-append-le, take-nil}
use Rattle.packed.specs.Format.{total, numbers, column_widths, widths, data_len, stored}

pub total-append : (us ws : List ℕ) → total (us ++ ws) ≡ total us + total ws
total-append [] ws = sym (zero-add (total ws))
total-append (u ∷ us) ws = ap (λ (n : ℕ). u + n) (total-append us ws) ∙ sym (add_assoc u (total us) (total ws))

pub numbers-length : (ws s : List ℕ) → length (numbers ws s) ≡ length ws
numbers-length [] s = refl
numbers-length (w ∷ ws) s = ap suc (numbers-length ws (drop w s))

-- what follows some numbers is read behind their bytes
pub numbers-append : (us ws s : List ℕ) → numbers (us ++ ws) s ≡ numbers us s ++ numbers ws (drop (total us) s)
numbers-append [] ws s = refl
numbers-append (u ∷ us) ws s = rw (numbers-append us ws (drop u s), drop-drop (total us) u s)

take_of_take : (w n : ℕ) (s : List ℕ) → take w (take (w + n) s) ≡ take w s
take_of_take w n s = take-take w (w + n) s (le-add_right w n)

pub drop_of_take : (w n : ℕ) (s : List ℕ) → drop w (take (w + n) s) ≡ take n (drop w s)
drop_of_take zero n s = rw zero-add
drop_of_take (suc w) n [] = ap (drop (suc w)) (take-nil (suc w + n)) ∙ sym (take-nil n)
drop_of_take (suc w) n (x ∷ s) = ap (λ (k : ℕ). drop (suc w) (take k (x ∷ s))) (native.Mathlib.Nat.suc-add w n) ∙ drop_of_take w n s

-- what is read depends on the numbers' own bytes alone
pub numbers_own : (ws s : List ℕ) → numbers ws (take (total ws) s) ≡ numbers ws s
numbers_own [] s = refl
numbers_own (w ∷ ws) s = rw (take_of_take w (total ws) s, drop_of_take w (total ws) s, numbers_own ws (drop w s))

pub numbers_same : (ws s s' : List ℕ) → take (total ws) s ≡ take (total ws) s' → numbers ws s ≡ numbers ws s'
numbers_same ws s s' e = sym (numbers_own ws s) ∙ ap (numbers ws) e ∙ numbers_own ws s'

-- so any bytes may stand behind
pub numbers-behind : (ws s more : List ℕ) → total ws ≤ length s → numbers ws (s ++ more) ≡ numbers ws s
numbers-behind ws s more h = numbers_same ws (s ++ more) s (take-append-le (total ws) s more h)

-- ---- the same of columns

pub column_widths-append : (t us vs : List ℕ) → column_widths t (us ++ vs) ≡ column_widths t us ++ column_widths t vs
column_widths-append t [] vs = refl
column_widths-append t (u ∷ us) vs =
    ap (λ (l : List ℕ). widths t u ++ l) (column_widths-append t us vs) ∙ sym (append_assoc (widths t u) (column_widths t us) (column_widths t vs))

pub data_len-append : (t us vs : List ℕ) → data_len t (us ++ vs) ≡ data_len t us + data_len t vs
unfolding data_len
data_len-append t us vs = ap total (column_widths-append t us vs) ∙ total-append (column_widths t us) (column_widths t vs)

pub stored-append : (t us vs s : List ℕ) → stored t (us ++ vs) s ≡ stored t us s ++ stored t vs (drop (data_len t us) s)
unfolding data_len stored
stored-append t us vs s =
    ap (λ (ws : List ℕ). numbers ws s) (column_widths-append t us vs) ∙ numbers-append (column_widths t us) (column_widths t vs) s
