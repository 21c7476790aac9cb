-- `half_masks` meets its contract: the rule is one test over the whole table, which antt computes.
use Rattle.std.proofs.Common.{◌∙◌, rules}
use Rattle.packed.specs.Format.{field, widths, t1234}
use Rattle.places.proofs.Tables.{half_right, halves_right}
use Rattle.fast_decode.specs.declared.coder1234.TheConstants.{HALVES}
use Rattle.fast_decode.proofs.Masks.{elements}
use Rattle.fast_decode.proofs.coder1234.Coder1234FastDecode.half_masks.Goals as goal

pub returns : goal.returns
unfolding half_right widths field
returns c = elements t1234 4 c.args.tag _ tt (c.half_masks_of.ensures ∙ halves_right t1234 2 1 HALVES tt c.args.tag (search rules))
