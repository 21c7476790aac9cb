-- `tag_value` meets its contract: the Rust's formula is the shortest field for each of the five counts of zero bytes.
use Rattle.std.proofs.Common.{◌≡◌, ◌+◌, ◌-◌, ◌%◌, refl, rules}
use native.Mathlib.Nat.{mod-eq_of_lt}
use Rattle.packed.specs.Format.{t1234, m32}
use Rattle.packed.proofs.Zeros.{formulas}
use Rattle.coding_descriptor.proofs.coder1234.Coder1234CodingDescriptor.tag_value.Goals as goal

pub returns : goal.returns
returns c =
    let same : c.args.value % m32 ≡ c.args.value = mod-eq_of_lt (search rules) in
    rw (same, c.saturating_sub-tag.ensures) (formulas t1234 4 4 (λ z. 3 - z) (λ z. 3 - z + 1) tt refl tt refl c.args.value (search rules))
