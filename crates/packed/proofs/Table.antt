-- A rule of a table, or of a formula over few counts, proved by one test that antt computes at each number below a bound. Assumes nothing.
use mathlib.Core.Path.{◌≡◌, subst, sym}
use mathlib.Core.Bool.{Bool, true, false}
use mathlib.Core.Logic.{◌⊎◌, inl, inr}
use Prim.Native.Nat.{ℕ, zero, suc, ◌≤◌, ◌<◌}
use native.Mathlib.Nat.{not-suc-le-zero, le-suc_iff, suc_inj}
use lib.Dec.{T}

abbrev pub both : Bool → Bool → Bool
both true b = b
both false b = false

pub both_left : (a b : Bool) → T (both a b) → T a
both_left true b t = tt
both_left false b t = t

pub both_right : (a b : Bool) → T (both a b) → T b
both_right true b t = t
both_right false b t = absurd t

-- the test passes at each number below n
abbrev pub every : ℕ → (ℕ → Bool) → Bool
every zero f = true
every (suc n) f = both (f n) (every n f)

one_more : (n k : ℕ) (f : ℕ → Bool) → T (f n) → (k < n → T (f k)) → (suc k ≤ n) ⊎ (suc k ≡ suc n) → T (f k)
one_more n k f t ih (inl l) = ih l
one_more n k f t ih (inr e) = subst (λ (m : ℕ). T (f m)) (sym (suc_inj e)) t

pub at : (n : ℕ) (f : ℕ → Bool) → T (every n f) → (k : ℕ) → k < n → T (f k)
at zero f t k h = absurd (not-suc-le-zero h)
at (suc n) f t k h = one_more n k f (both_left (f n) (every n f) t) (at n f (both_right (f n) (every n f) t) k) (le-suc_iff.0 h)
