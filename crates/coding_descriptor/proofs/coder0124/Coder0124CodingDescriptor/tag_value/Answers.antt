-- `tag_value` meets its contract: the Rust's formula is the shortest field for each of the five counts of zero bytes.
use Rattle.std.proofs.Common.{◌≡◌, ◌-◌, ◌%◌, List, ℕ, [], ◌∷◌, get_or, refl, rules}
use native.Mathlib.Nat.{mod-eq_of_lt}
use Rattle.packed.specs.Format.{t0124, m32}
use Rattle.packed.proofs.Zeros.{formulas}
use Rattle.coding_descriptor.proofs.coder0124.Coder0124CodingDescriptor.tag_value.Goals as goal

-- TAG_VALUE_MAP
abbrev map : List ℕ
map = 0 ∷ 1 ∷ 2 ∷ 3 ∷ 3 ∷ []

pub returns : goal.returns
returns c =
    let same : c.args.value % m32 ≡ c.args.value = mod-eq_of_lt (search rules) in
    rw same (formulas t0124 4 4 (λ z. get_or map (4 - z) 0) (λ z. get_or t0124 (get_or map (4 - z) 0) 0) tt refl tt refl c.args.value (search rules))
