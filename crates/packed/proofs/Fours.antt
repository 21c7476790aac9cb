-- Lists of four. Assumes nothing.
use mathlib.Core.Path.{◌≡◌, refl, ap, sym}
use mathlib.Core.List.{List, [], ◌∷◌, map}
use Prim.Native.Nat.{ℕ, ◌+◌}
use native.Mathlib.Omega.{arith}
use native.Mathlib.Numerals.{add-one, add-two, add-three}
use lib.ListN.{length, get_or, set}
use lib.Seq.{sets}
use Rattle.packed.proofs.Deltas.{last_of}

-- the four elements of a list of four
abbrev pub four_of : List ℕ → List ℕ
four_of l = get_or l 0 0 ∷ get_or l 1 0 ∷ get_or l 2 0 ∷ get_or l 3 0 ∷ []

pub four_is : (l : List ℕ) → length l ≡ 4 → l ≡ four_of l
four_is [] h = absurd (omega arith)
four_is (a ∷ []) h = absurd (omega arith)
four_is (a ∷ b ∷ []) h = absurd (omega arith)
four_is (a ∷ b ∷ c ∷ []) h = absurd (omega arith)
four_is (a ∷ b ∷ c ∷ d ∷ []) h = refl
four_is (a ∷ b ∷ c ∷ d ∷ e ∷ l) h = absurd (omega arith)

-- one function of each element
pub four_map : (f : ℕ → ℕ) (l : List ℕ) (a b c d : ℕ) → length l ≡ 4 → a ≡ f (get_or l 0 0) → b ≡ f (get_or l 1 0) → c ≡ f (get_or l 2 0) → d ≡ f (get_or l 3 0)
    → a ∷ b ∷ c ∷ d ∷ [] ≡ map f l
four_map f l a b c d h ea eb ec ed =
    let e : map f (four_of l) ≡ map f l = ap (map f) (sym (four_is l h)) in
    rw (ea, eb, ec, ed) e

-- four stores one behind the other
pub four_stores : (l g : List ℕ) (at : ℕ) → length g ≡ 4
    → set (set (set (set l at (get_or g 0 0)) (at + 1) (get_or g 1 0)) (at + 2) (get_or g 2 0)) (at + 3) (get_or g 3 0) ≡ sets l at g
four_stores l g at h =
    let e : sets l at (four_of g) ≡ sets l at g = ap (sets l at) (sym (four_is g h)) in
    rw (add-one at, add-two at, add-three at) e

-- the last of four
pub last_of_four : (p : ℕ) (g : List ℕ) → length g ≡ 4 → get_or g 3 0 ≡ last_of p g
last_of_four p g h = ap (last_of p) (sym (four_is g h))
