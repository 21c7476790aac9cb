-- Laws of steps and their sums, modulo m. Assumes nothing.
use mathlib.Core.Path.{◌≡◌, refl, ap, ap₂, sym, ◌∙◌}
use mathlib.Core.List.{List, [], ◌∷◌, ◌++◌}
use Prim.Native.Nat.{ℕ, suc, ◌+◌, ◌-◌, ◌%◌, ◌<◌}
use native.Mathlib.Nat.{add-zero, add_assoc, add_comm, mod-lt, mod-eq_of_lt, mod-add-mod, add-mod-mod, add-mod_right}
use native.Mathlib.Omega.{arith}
use lib.ListN.{length}
use Rattle.packed.specs.Format.{total, steps, walked, wrapping_sum}
use Rattle.packed.proofs.Bytes.{Below}

-- the last number of a list, or p where it has none
abbrev pub last_of : ℕ → List ℕ → ℕ
last_of p [] = p
last_of p (v ∷ vs) = last_of v vs

pub steps-length : (m p : ℕ) (vs : List ℕ) → length (steps m p vs) ≡ length vs
steps-length m p [] = refl
steps-length m p (v ∷ vs) = ap suc (steps-length m v vs)

pub walked-length : (m p : ℕ) (ds : List ℕ) → length (walked m p ds) ≡ length ds
walked-length m p [] = refl
walked-length m p (d ∷ ds) = ap suc (walked-length m ((p + d) % m) ds)

-- a step and its start give the value back
pub step_back : (m p v : ℕ) → p < m → v < m → (p + (v + (m - p)) % m) % m ≡ v
step_back m p v hp hv =
    let e : p + (v + (m - p)) ≡ v + m = omega arith in
    add-mod-mod p (v + (m - p)) m ∙ ap (λ (n : ℕ). n % m) e ∙ add-mod_right v m ∙ mod-eq_of_lt hv

-- what a wrapping subtract promises is the step
pub step_of : (m p v r : ℕ) → p < m → r < m → (r + p) % m ≡ v → r ≡ (v + (m - p)) % m
step_of m p v r hp hr e =
    let back : r + p + (m - p) ≡ r + m = omega arith in
    sym (
    ap (λ (n : ℕ). (n + (m - p)) % m) (sym e) ∙ mod-add-mod (r + p) m (m - p) ∙ ap (λ (n : ℕ). n % m) back
    ∙ add-mod_right r m ∙ mod-eq_of_lt hr
    )

-- adding back the steps gives the values, whatever the start
pub walked-steps : (m p : ℕ) (vs : List ℕ) → p < m → Below m vs → walked m p (steps m p vs) ≡ vs
walked-steps m p [] hp h = refl
walked-steps m p (v ∷ vs) hp h =
    rw (step_back m p v hp (h 0), walked-steps m v vs (h 0) (λ i. h (suc i)))

-- the steps of the values that some numbers make are those numbers
pub steps-walked : (m p : ℕ) (ds : List ℕ) → p < m → Below m ds → steps m p (walked m p ds) ≡ ds
steps-walked m p [] hp h = refl
steps-walked m p (d ∷ ds) hp h =
    let hm : 0 < m = omega arith in
    ap₂ (λ (x : ℕ) (l : List ℕ). x ∷ l)
    (sym (step_of m p ((p + d) % m) d hp (h 0) (ap (λ (n : ℕ). n % m) (add_comm d p))))
    (steps-walked m ((p + d) % m) ds (mod-lt (p + d) hm) (λ i. h (suc i)))

pub walked-append : (m p : ℕ) (xs ys : List ℕ) → p < m → walked m p (xs ++ ys) ≡ walked m p xs ++ walked m ((p + total xs) % m) ys
walked-append m p [] ys hp = ap (λ (q : ℕ). walked m q ys) (sym (ap (λ (n : ℕ). n % m) (add-zero p) ∙ mod-eq_of_lt hp))
walked-append m p (x ∷ xs) ys hp =
    let hm : 0 < m = omega arith in
    let e : ((p + x) % m + total xs) % m ≡ (p + (x + total xs)) % m =
    mod-add-mod (p + x) m (total xs) ∙ ap (λ (n : ℕ). n % m) (add_assoc p x (total xs)) in
    rw (walked-append m ((p + x) % m) xs ys (mod-lt (p + x) hm), e)

-- the last value is the start and the sum of the steps
pub walked_last : (m p : ℕ) (ds : List ℕ) → p < m → last_of p (walked m p ds) ≡ (p + total ds) % m
walked_last m p [] hp = sym (ap (λ (n : ℕ). n % m) (add-zero p) ∙ mod-eq_of_lt hp)
walked_last m p (d ∷ ds) hp =
    let hm : 0 < m = omega arith in
    walked_last m ((p + d) % m) ds (mod-lt (p + d) hm)
    ∙ mod-add-mod (p + d) m (total ds) ∙ ap (λ (n : ℕ). n % m) (add_assoc p d (total ds))

-- the sum of the steps is the last value minus the start
pub steps_sum : (m p : ℕ) (vs : List ℕ) → p < m → Below m vs → wrapping_sum m (steps m p vs) ≡ (last_of p vs + (m - p)) % m
unfolding wrapping_sum
steps_sum m p vs hp h =
    let hm : 0 < m = omega arith in
    let ds : List ℕ = steps m p vs in
    let e : last_of p vs ≡ (p + total ds) % m = ap (last_of p) (sym (walked-steps m p vs hp h)) ∙ walked_last m p ds hp in
    let back : p + total ds + (m - p) ≡ total ds + m = omega arith in
    sym (
    ap (λ (n : ℕ). (n + (m - p)) % m) e ∙ mod-add-mod (p + total ds) m (m - p) ∙ ap (λ (n : ℕ). n % m) back ∙ add-mod_right (total ds) m
    )
