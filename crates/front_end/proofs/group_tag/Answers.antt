-- `group_tag` meets its contract: zeros have the first field, and the rest is found.
use Rattle.std.proofs.Common.{map}
use Rattle.wide_stores.proofs.Ends.{zeros_tag}
use Rattle.front_end.proofs.group_tag.Goals as goal

pub returns-then-is_zero : goal.returns-then-is_zero
returns-then-is_zero g c = zeros_tag g.D.CodingDescriptor.table (map g.D.Elem.Elem.number c.args.group) (c.is_zero.ensures c.if-is_zero.true)
