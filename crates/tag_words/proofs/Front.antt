-- The first stage takes every eight of the first tags where the bytes of all of them plus slack are there, since the bytes of fewer are fewer:
-- so they need not be tried one after the other. Over the width table t. Assumes nothing.
use mathlib.Core.Path.{◌≡◌, refl, sym, ◌∙◌, subst}
use mathlib.Core.List.{List}
use Prim.Native.Nat.{ℕ, zero, suc, ◌+◌, ◌*◌, ◌/◌, ◌%◌, ◌≤◌, ◌<◌}
use native.Mathlib.Nat.{add-zero, zero-add}
use native.Mathlib.Numerals.{add-one}
use native.Mathlib.Omega.{arith}
use lib.ListN.{length, get_or}
use Rattle.packed.specs.Column.{Measured}
use Rattle.packed.specs.Format.{total, widths}
use Rattle.packed.specs.Stages.{slack}
use Rattle.packed.proofs.Ends.{Table, measured_here, measured_step, measured_join, AtEights, at_eights_start, at_eights_next}

module _ (t : List ℕ) (is : Table t) (tags bytes : List ℕ) where
  -- any run of tags has its bytes
  measured : (a k : ℕ) → a + k ≤ length tags → (x : ℕ) × Measured t tags a (a + k) x
  measured a zero h = (0, subst (λ (n : ℕ). Measured t tags a n 0) (sym (add-zero a)) (measured_here t is tags a (omega arith)))
  measured a (suc k) h =
      let m = measured a k (omega arith) in
      let y : ℕ = total (widths t (get_or tags (a + k) 0)) in
      (m.0 + y, subst (λ (n : ℕ). Measured t tags a (a + n) (m.0 + y)) (add-one k) (measured_step t is a k y m.1 (omega arith) refl))

  many : (k read : ℕ) → Measured t tags 0 (8 * k) read → read + slack t ≤ length bytes → AtEights t is tags bytes (8 * k) read
  many zero read m fit = subst (AtEights t is tags bytes 0) (omega (arith, m.most)) (at_eights_start t is tags bytes)
  many (suc k) read m fit =
      let eight : 8 * suc k ≡ 8 * k + 8 = omega arith in
      let whole : Measured t tags 0 (8 * k + 8) read = subst (λ (n : ℕ). Measured t tags 0 n read) eight m in
      let front = measured 0 (8 * k) (omega (arith, whole.inside)) in
      let last = measured (8 * k) 8 whole.inside in
      let before : Measured t tags 0 (8 * k) front.0 = subst (λ (n : ℕ). Measured t tags 0 n front.0) (zero-add (8 * k)) front.1 in
      let sum : front.0 + last.0 ≡ read = (measured_join t is before last.1).len ∙ sym whole.len in
      subst (AtEights t is tags bytes (8 * suc k)) sum
      (subst (λ (n : ℕ). AtEights t is tags bytes n (front.0 + last.0)) (sym eight)
      (at_eights_next t is last.0 (many k front.0 before (omega (arith, sum, fit))) last.1 (omega (arith, sum, fit))))

  pub at_eights_front : (i read : ℕ) → Measured t tags 0 i read → i % 8 ≡ 0 → (0 < i → read + slack t ≤ length bytes) → AtEights t is tags bytes i read
  at_eights_front zero read m e fit = subst (AtEights t is tags bytes 0) (omega (arith, m.most)) (at_eights_start t is tags bytes)
  at_eights_front (suc i) read m e fit =
      let k : ℕ = suc i / 8 in
      let eights : suc i ≡ 8 * k = omega arith in
      subst (λ (n : ℕ). AtEights t is tags bytes n read) (sym eights) (many k read (subst (λ (n : ℕ). Measured t tags 0 n read) eights m) (fit (omega arith)))
