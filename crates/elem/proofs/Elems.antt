-- Lists of elements seen as lists of numbers: f is the number that an element is. Assumes nothing.
use mathlib.Core.Path.{◌≡◌, ap, sym, ◌∙◌, subst}
use mathlib.Core.List.{List, [], ◌∷◌, map}
use Prim.Native.Nat.{ℕ, zero, suc, ◌%◌, ◌^◌, ◌<◌}
use lib.Dec.{T}
use lib.ListN.{length, get_or}
use Rattle.std.proofs.lemmas.List.{get_or-map}
use mir.Syntax.{Width}
use mir.Val.{Fits, bits}
use Rattle.packed.proofs.Bytes.{Below, below_fits, below_same, byte_power_pos}
use Rattle.packed.proofs.Loops.{all_le}
use Rattle.packed.proofs.Ends.{Table}
use Rattle.packed.proofs.Widths.{top}

-- the number of the i-th element
pub number_at : {E : Type 0} (f : E → ℕ) (xs : List E) (i : ℕ) (d : E) → i < length xs → f (get_or xs i d) ≡ get_or (map f xs) i 0
number_at f xs i d h = sym (get_or-map f xs i d 0 h)

-- the same of an element that was read
pub read_at : {E : Type 0} (f : E → ℕ) (xs : List E) (i : ℕ) (x : E) → i < length xs → x ≡ get_or xs i x → f x ≡ get_or (map f xs) i 0
read_at f xs i x h e = ap f e ∙ number_at f xs i x h

-- each number is below the modulus
pub below_map : {E : Type 0} (f : E → ℕ) (m : ℕ) → 0 < m → ((x : E) → f x < m) → (xs : List E) → Below m (map f xs)
below_map f m pos h [] i = pos
below_map f m pos h (x ∷ xs) zero = h x
below_map f m pos h (x ∷ xs) (suc i) = below_map f m pos h xs i

-- a modulus is not 0
pub modulus_pos : (m w : ℕ) → m ≡ 256 ^ w → 0 < m
modulus_pos m w e = subst (λ (n : ℕ). 0 < n) (sym e) (byte_power_pos w)

-- no width of the table is above an element's
pub widths_fit : (t : List ℕ) (w : ℕ) → Table t → get_or t 3 0 ≡ w → T (all_le w t)
widths_fit t w is e = subst (λ (n : ℕ). T (all_le n t)) e is.last

-- where the numbers of the widest width end
pub top_is : (t : List ℕ) (m w : ℕ) → get_or t 3 0 ≡ w → m ≡ 256 ^ w → m ≡ top t
top_is t m w e em = em ∙ ap (λ (n : ℕ). 256 ^ n) (sym e)

-- so each number is below the end of the table's
pub below_top : {E : Type 0} (f : E → ℕ) (t : List ℕ) (m w : ℕ) → get_or t 3 0 ≡ w → m ≡ 256 ^ w → ((x : E) → f x < m) → (xs : List E) → Below (top t) (map f xs)
below_top f t m w e em h xs = subst (λ (n : ℕ). Below n (map f xs)) (top_is t m w e em) (below_map f m (modulus_pos m w em) h xs)

-- numbers below m are what they are modulo m
pub unmapped : (m : ℕ) (xs : List ℕ) → Below m xs → map (λ x. x % m) xs ≡ xs
unmapped m xs h = below_same m xs h

-- numbers that fit so many bits are what they are modulo the power of two
pub fits_same : (w : Width) (xs : List ℕ) → ((i : ℕ) → Fits w (get_or xs i 0)) → map (λ x. x % 2 ^ bits w) xs ≡ xs
fits_same w xs fit = unmapped (2 ^ bits w) xs (below_fits w xs fit)
