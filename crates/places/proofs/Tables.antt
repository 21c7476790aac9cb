-- The tables are right where a test passes that antt computes at each tag. Assumes nothing.
use mathlib.Core.Path.{◌≡◌, refl, ap₂}
use mathlib.Core.Bool.{Bool, true, false}
use mathlib.Core.List.{List, [], ◌∷◌}
use Prim.Native.Nat.{ℕ, ◌+◌, ◌*◌, ◌/◌, ◌%◌}
use lib.Dec.{T, eqb, eqb→eq}
use lib.ListN.{get_or}
use Rattle.packed.specs.Format.{field, widths}
use Rattle.packed.proofs.Table.{both, both_left, both_right, every, at}
use Rattle.tag_utils.specs.Tables.{masks}
use Rattle.places.specs.Places.{place_of, Places, halves_of, Halves, sides_of, Sides}

unfoldable pub place_right : List ℕ → List ℕ → ℕ → Bool
unfolding widths field
place_right t places tag = eqb (get_or places tag 0) (place_of (widths t tag))

pub places_right : (t places : List ℕ) → T (every 256 (place_right t places)) → Places t places
unfolding place_right
places_right t places test tag h = eqb→eq (get_or places tag 0) (place_of (widths t tag)) (at 256 (place_right t places) test tag h)

abbrev pub same_of : List ℕ → List ℕ → Bool
same_of [] [] = true
same_of [] (b ∷ m) = false
same_of (a ∷ l) [] = false
same_of (a ∷ l) (b ∷ m) = both (eqb a b) (same_of l m)

same_of_lem : (l m : List ℕ) → T (same_of l m) → l ≡ m
same_of_lem [] [] t = refl
same_of_lem [] (b ∷ m) t = absurd t
same_of_lem (a ∷ l) [] t = absurd t
same_of_lem (a ∷ l) (b ∷ m) t = ap₂ (λ (x : ℕ) (xs : List ℕ). x ∷ xs) (eqb→eq a b (both_left (eqb a b) (same_of l m) t)) (same_of_lem l m (both_right (eqb a b) (same_of l m) t))

unfoldable pub half_right : List ℕ → ℕ → ℕ → List ℕ → ℕ → Bool
half_right t k j halves tag = same_of (halves_of k j halves tag) (masks (widths t tag))

pub halves_right : (t : List ℕ) (k j : ℕ) (halves : List ℕ) → T (every 256 (half_right t k j halves)) → Halves t k j halves
unfolding half_right
halves_right t k j halves test tag h = same_of_lem (halves_of k j halves tag) (masks (widths t tag)) (at 256 (half_right t k j halves) test tag h)

unfoldable pub side_right : List ℕ → List ℕ → ℕ → Bool
side_right t sides tag = same_of (sides_of sides (4 * (tag % 16)) (64 + 4 * (tag / 16))) (masks (widths t tag))

pub sides_right : (t sides : List ℕ) → T (every 256 (side_right t sides)) → Sides t sides
unfolding side_right
sides_right t sides test tag h = same_of_lem (sides_of sides (4 * (tag % 16)) (64 + 4 * (tag / 16))) (masks (widths t tag)) (at 256 (side_right t sides) test tag h)
