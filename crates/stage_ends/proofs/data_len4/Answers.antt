-- `data_len4` is safe: four entries are at most 128.
use Rattle.std.proofs.Common.{arith, rules}
use Rattle.stage_ends.proofs.Most.{entries_most}
use Rattle.stage_ends.proofs.data_len4.Goals as goal

pub overflow_add-result : goal.overflow_add-result
overflow_add-result g c =
    let laws = g.met.D.CodingDescriptor in
    omega (arith, entries_most g.D.CodingDescriptor.table laws.is_table laws.widest g.met.D.Elem.Elem.few _ c.tag_length_table-lens.ensures c.args.tag4 (search rules))

pub overflow_add-result-2 : goal.overflow_add-result-2
overflow_add-result-2 g c =
    let laws = g.met.D.CodingDescriptor in
    omega (arith, entries_most g.D.CodingDescriptor.table laws.is_table laws.widest g.met.D.Elem.Elem.few _ c.tag_length_table-lens.ensures c.args.tag4 (search rules))

pub overflow_add-result-3 : goal.overflow_add-result-3
overflow_add-result-3 g c =
    let laws = g.met.D.CodingDescriptor in
    omega (arith, entries_most g.D.CodingDescriptor.table laws.is_table laws.widest g.met.D.Elem.Elem.few _ c.tag_length_table-lens.ensures c.args.tag4 (search rules))
