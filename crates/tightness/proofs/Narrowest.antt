-- What is stored at the narrowest width is stored at its shortest. Assumes nothing.
use Rattle.std.proofs.Common.{◌≡◌, ℕ, ◌<◌, List, length, get_or, take, drop, sym, ap, ◌∙◌}
use native.Mathlib.Nat.{le_refl}
use native.Mathlib.Omega.{arith}
use Rattle.packed.specs.Format.{shortest, le_value}
use Rattle.packed.specs.Group.{Shortest}
use Rattle.packed.proofs.Bytes.{Below, below-drop, le_value-below}
use Rattle.packed.proofs.Widths.{short_width_is, shortest_first}

-- the bytes from at on, at the width of the first field in the lent table ls
pub narrowest : (t ls bytes : List ℕ) (f at : ℕ) → 0 < length t → ls ≡ t → f ≡ 0 → Below 256 bytes
    → Shortest t (get_or ls f 0) (le_value (take (get_or ls f 0) (drop at bytes))) 0 (get_or ls f 0)
narrowest t ls bytes f at some el ef b = rw (el, ef) narrow
  where
    w : ℕ
    w = get_or t 0 0

    v : ℕ
    v = le_value (take w (drop at bytes))

    first : shortest t v ≡ 0
    first = omega (arith, shortest_first t v 0 some (le_value-below w (drop at bytes) (below-drop 256 at bytes b)))

    narrow : Shortest t w v 0 w
    narrow = record {
      tag = sym first;
      len = sym (short_width_is t v ∙ ap (λ (n : ℕ). get_or t n 0) first);
      field = omega arith;
      width = le_refl w;
    }
