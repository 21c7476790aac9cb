-- `half_masks` meets its contract: the rule is one test over the whole table, which antt computes.
use Rattle.std.proofs.Common.{rules}
use native.Mathlib.Nat.{one-mul}
use Rattle.packed.specs.Format.{field, widths, t1248}
use Rattle.places.proofs.Tables.{half_right, halves_right}
use Rattle.fast_decode.specs.declared.coder1248.TheConstants.{HALVES}
use Rattle.fast_decode.proofs.Masks.{elements}
use Rattle.fast_decode.proofs.coder1248.Coder1248FastDecode.half_masks.Goals as goal

pub returns : goal.returns
unfolding half_right widths field
returns c = elements t1248 8 c.args.tag _ tt (simp one-mul at (halves_right t1248 1 16 HALVES tt c.args.tag (search rules)))
