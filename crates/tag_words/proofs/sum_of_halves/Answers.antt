-- `sum_of_halves` meets its contract: by the law of its three sums.
use mathlib.Core.Path.{refl}
use Prim.Native.Nat.{◌/◌}
use native.Mathlib.Omega.{arith}
use lib.Bits.{and_le_r}
use Rattle.tag_words.proofs.Words.{sums_halves}
use Rattle.tag_words.proofs.sum_of_halves.Goals as goal

pub overflow_add-bytes : goal.overflow_add-bytes
overflow_add-bytes c = omega (arith, and_le_r c.args.pairs 252645135, and_le_r (c.args.pairs / 16) 252645135)

pub overflow_add-two : goal.overflow_add-two
overflow_add-two c = omega (arith, and_le_r c.args.pairs 252645135, and_le_r (c.args.pairs / 16) 252645135)

pub overflow_add-result : goal.overflow_add-result
overflow_add-result c = omega (arith, and_le_r c.args.pairs 252645135, and_le_r (c.args.pairs / 16) 252645135)

pub returns : goal.returns
returns c =
    (sums_halves c.args.pairs _ _ refl refl, omega (arith, and_le_r c.args.pairs 252645135, and_le_r (c.args.pairs / 16) 252645135))
