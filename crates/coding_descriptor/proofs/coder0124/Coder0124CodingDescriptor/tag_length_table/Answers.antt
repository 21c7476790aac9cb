-- `tag_length_table` meets its contract: the rule is one test over the whole table, which antt computes.
use Rattle.packed.specs.Format.{field, widths, t0124}
use Rattle.coding_descriptor.specs.declared.coder0124.TheConstants.{LENGTH_TABLE}
use Rattle.coding_descriptor.proofs.Lengths.{lengths_right}
use Rattle.coding_descriptor.proofs.coder0124.Coder0124CodingDescriptor.tag_length_table.Goals as goal

pub returns : goal.returns
unfolding widths field
returns c = lengths_right t0124 LENGTH_TABLE tt
