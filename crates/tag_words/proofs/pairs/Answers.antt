-- `pairs` meets its contract: by the law of its two masks.
use Prim.Native.Nat.{◌/◌}
use native.Mathlib.Omega.{arith}
use lib.Bits.{and_le_r}
use Rattle.tag_words.proofs.Words.{pairs_bytewise}
use Rattle.tag_words.proofs.pairs.Goals as goal

pub overflow_add-result : goal.overflow_add-result
overflow_add-result c = omega (arith, and_le_r c.args.fields 858993459, and_le_r (c.args.fields / 4) 858993459)

pub returns : goal.returns
returns c = pairs_bytewise c.args.fields
