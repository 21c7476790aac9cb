-- `tag_length_table` meets its contract: the rule is one test over the whole table, which antt computes.
use Rattle.packed.specs.Format.{field, widths, t1234}
use Rattle.coding_descriptor.specs.declared.coder1234.TheConstants.{LENGTH_TABLE}
use Rattle.coding_descriptor.proofs.Lengths.{lengths_right}
use Rattle.coding_descriptor.proofs.coder1234.Coder1234CodingDescriptor.tag_length_table.Goals as goal

pub returns : goal.returns
unfolding widths field
returns c = lengths_right t1234 LENGTH_TABLE tt
