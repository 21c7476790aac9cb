-- `side_masks` meets its contract: the rule is one test over the whole table, which antt computes.
use Rattle.std.proofs.Common.{◌∙◌, rules}
use Rattle.packed.specs.Format.{field, widths, t1234}
use Rattle.places.proofs.Tables.{side_right, sides_right}
use Rattle.fast_decode.specs.declared.coder1234.TheConstants.{SIDES}
use Rattle.fast_decode.proofs.Masks.{elements}
use Rattle.fast_decode.proofs.coder1234.Coder1234FastDecode.side_masks.Goals as goal

pub returns : goal.returns
unfolding side_right widths field
returns c = elements t1234 4 c.args.tag _ tt (c.side_masks_of.ensures ∙ sides_right t1234 SIDES tt c.args.tag (search rules))
