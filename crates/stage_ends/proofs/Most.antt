-- What groups take at most, over a width table t whose widest width is not above eight. Assumes nothing.
use mathlib.Core.Path.{◌≡◌}
use mathlib.Core.List.{List}
use Prim.Native.Nat.{ℕ, ◌+◌, ◌-◌, ◌*◌, ◌/◌, ◌%◌, ◌≤◌, ◌<◌}
use native.Mathlib.Omega.{arith}
use lib.ListN.{get_or}
use Rattle.std.proofs.Math.Nat.{mul-le-mul_right}
use Rattle.packed.specs.Column.{Measured}
use Rattle.packed.specs.Format.{total, widths}
use Rattle.packed.specs.Stages.{widest_group}
use Rattle.packed.proofs.Ends.{Table, group_most}
use Rattle.tag_utils.specs.Tables.{Lengths}
use Rattle.tag_words.specs.Words.{lengths4}

module _ (t : List ℕ) (is : Table t) {w : ℕ} (widest : get_or t 3 0 ≡ w) (few : w ≤ 8) where
  wide : widest_group t ≤ 32
  wide = omega (arith, widest, few)

  pub one_most : (tag : ℕ) → total (widths t tag) ≤ 32
  one_most tag = omega (arith, wide, group_most t is tag)

  pub four_most : (x : ℕ) → lengths4 t x ≤ 128
  four_most x = omega (arith, one_most (x % 256), one_most (x / 256 % 256), one_most (x / 65536 % 256), one_most (x / 16777216))

  -- the same from a table of lengths
  pub entries_most : (lens : List ℕ) → Lengths t lens → (x : ℕ) → x < 4294967296
      → get_or lens (x % 256) 0 + get_or lens (x / 256 % 256) 0 + get_or lens (x / 65536 % 256) 0 + get_or lens (x / 16777216) 0 ≤ 128
  entries_most lens ls x fits =
      omega (arith, four_most x, ls (x % 256) (omega arith), ls (x / 256 % 256) (omega arith), ls (x / 65536 % 256) (omega arith), ls (x / 16777216) (omega arith))

  pub run_most : {tags : List ℕ} {a b x : ℕ} → Measured t tags a b x → x ≤ 32 * (b - a)
  run_most {tags} {a} {b} {x} m = omega (arith, m.most, mul-le-mul_right (b - a) wide)
