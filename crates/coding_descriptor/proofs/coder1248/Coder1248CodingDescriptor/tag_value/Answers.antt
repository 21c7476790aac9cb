-- `tag_value` meets its contract: the Rust's formula is the shortest field for each of the nine counts of zero bytes.
use Rattle.std.proofs.Common.{◌≡◌, ℕ, ◌-◌, ◌/◌, ◌%◌, ◌^◌, ◌<◌, T, get_or, refl, rules}
use native.Mathlib.Nat.{mod-eq_of_lt}
use lib.Count.{count_leading_zeros}
use Rattle.packed.specs.Format.{t1248, m64}
use Rattle.packed.specs.Group.{Shortest}
use Rattle.packed.proofs.Table.{every}
use Rattle.packed.proofs.Zeros.{right_at, formulas}
use Rattle.coding_descriptor.proofs.coder1248.Coder1248CodingDescriptor.tag_value.Goals as goal

-- the field and the width by the count of zero bytes
abbrev tag : ℕ → ℕ
tag z = 32 - count_leading_zeros 32 (7 - z)

abbrev len : ℕ → ℕ
len z = get_or t1248 (tag z) 0

right : T (every 9 (right_at t1248 8 tag len))
unfolding count_leading_zeros
right = tt

shortest : (value : ℕ) → value < 256 ^ 8 → Shortest t1248 8 value (tag (count_leading_zeros 64 value / 8)) (len (count_leading_zeros 64 value / 8))
shortest value h = formulas t1248 8 8 tag len right refl tt refl value h

pub bounds-tag : goal.bounds-tag
bounds-tag c = rw c.saturating_sub-t3.ensures (shortest c.args.value (search rules)).field

pub returns : goal.returns
returns c =
    let same : c.args.value % m64 ≡ c.args.value = mod-eq_of_lt (search rules) in
    rw (same, c.saturating_sub-t3.ensures) (shortest c.args.value (search rules))
