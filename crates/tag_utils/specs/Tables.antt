-- What the coders' tables hold, over the width table t that they belong to.
use Rattle.std.specs.Prelude.{◌≡◌, List, map, ℕ, ◌-◌, ◌^◌, ◌<◌, get_or}
use Rattle.packed.specs.Format.{total, widths}

-- "A mask of width 0 is 0; of the full width all ones": the mask of a width w is all ones in its w bytes.
abbrev pub masks : List ℕ → List ℕ
masks t = map (λ (w : ℕ). 256 ^ w - 1) t

-- "Each coder has a table of 256 lengths, one for every tag byte, and its rule is the sum of the four field widths."
abbrev pub Lengths : List ℕ → List ℕ → Type 0
Lengths t lens = (tag : ℕ) → tag < 256 → get_or lens tag 0 ≡ total (widths t tag)
