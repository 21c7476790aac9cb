-- `decode` meets its contract: by the laws of its loop.
use Rattle.std.proofs.Common.{ℕ, length, ◌≡◌, ◌%◌, arith, sym, ap, ◌∙◌}
use Rattle.elem.proofs.Elems.{number_at, widths_fit}
use Rattle.std.proofs.lemmas.List.{map-set, length-map}
use Rattle.packed.proofs.Loops.{lent-width, lent_mask, decoding_next, decoding_done}
use Rattle.raw_group.proofs.decode.Goals as goal

pub number-requires-clause-mask : goal.number-requires-clause-mask
number-requires-clause-mask g c κs within =
    let e = g.D.Elem.Elem in
    let t = g.D.CodingDescriptor.table in
    let laws = g.met.D.CodingDescriptor in
    let f : ℕ = c.loop-value.rest % 4 in
    let four : length c.tag_max.result.now ≡ 4 = sym (length-map c.tag_max.result.now e.number) ∙ ap length c.tag_max.ensures ∙ length-map t _ ∙ laws.is_table.four in (
      lent-width e.SIZE t _ f (widths_fit t e.SIZE laws.is_table laws.widest) c.tag_len.ensures,
      number_at e.number c.tag_max.result.now f _ (omega (arith, four)) ∙ lent_mask t _ _ f c.tag_len.ensures c.tag_max.ensures,
    )

pub overflow_add-read : goal.overflow_add-read
overflow_add-read g c =
    let e = g.D.Elem.Elem in
    let t = g.D.CodingDescriptor.table in
    let laws = g.met.D.CodingDescriptor in
    let width = lent-width e.SIZE t _ (c.loop-value.rest % 4) (widths_fit t e.SIZE laws.is_table laws.widest) c.tag_len.ensures in
    record { fits = grind (arith, c.loop-value.invariant.room, width, c.requires, c.loop-value-test.true) }

pub loop-value-preserved : goal.loop-value-preserved
loop-value-preserved g c =
    let e = g.D.Elem.Elem in
    let t = g.D.CodingDescriptor.table in
    let laws = g.met.D.CodingDescriptor in
    rw (map-set e.number c.loop-value.value-items c.loop-value.value-index c.number.result)
    (decoding_next (e.number c.number.result) c.loop-value.invariant c.loop-value-test.true (widths_fit t e.SIZE laws.is_table laws.widest) _ c.tag_len.ensures c.number.ensures)

pub returns : goal.returns
returns g c = decoding_done c.loop-value.invariant c.loop-value-test.false
