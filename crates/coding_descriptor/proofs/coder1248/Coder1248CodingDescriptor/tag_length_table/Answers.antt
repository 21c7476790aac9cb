-- `tag_length_table` meets its contract: the rule is one test over the whole table, which antt computes.
use Rattle.packed.specs.Format.{field, widths, t1248}
use Rattle.coding_descriptor.specs.declared.coder1248.TheConstants.{LENGTH_TABLE}
use Rattle.coding_descriptor.proofs.Lengths.{lengths_right}
use Rattle.coding_descriptor.proofs.coder1248.Coder1248CodingDescriptor.tag_length_table.Goals as goal

pub returns : goal.returns
unfolding widths field
returns c = lengths_right t1248 LENGTH_TABLE tt
