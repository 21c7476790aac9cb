-- `group_len` meets its contract: the widths of the group's tag.
use Rattle.std.proofs.Common.{map, ap, rules, ◌∙◌}
use Rattle.std.proofs.lemmas.List.{length-map}
use Rattle.packed.specs.Format.{total, widths}
use Rattle.elem.proofs.Elems.{below_top}
use Rattle.wide_stores.proofs.Ends.{tag_total}
use Rattle.front_end.proofs.group_len.Goals as goal

pub returns : goal.returns
returns g c =
    let e = g.D.Elem.Elem in
    let t = g.D.CodingDescriptor.table in
    let laws = g.met.D.CodingDescriptor in
    let own = g.met.D.Elem.Elem in
    c.data_len.ensures ∙ ap (λ tag. total (widths t tag)) c.group_tag.ensures ∙ tag_total t (map e.number c.args.group) laws.is_table.four (rw length-map (search rules))
    (below_top e.number t e.modulus e.SIZE laws.widest own.wraps own.below c.args.group)
