-- `first_loose` meets its contract: by the laws of its two loops.
use Rattle.std.proofs.Common.{◌%◌, get_or, refl, sym, rules}
use Rattle.elem.proofs.Elems.{widths_fit}
use Rattle.packed.proofs.Loops.{lent-width}
use Rattle.packed.proofs.Tight.{part_is, part-fits, at_group_start, at_group_done, at_number_start, at_number_there, at_number_next, at_number_loose, at_number_done}
use Rattle.tightness.proofs.Narrowest.{narrowest}
use Rattle.tightness.proofs.first_loose.Goals.{then-rest-ne0+else-len-tag_value, else-rest-ne0}
use Rattle.tightness.proofs.first_loose.Goals as goal

pub loop-group-init : goal.loop-group-init
loop-group-init g c = at_group_start g.D.CodingDescriptor.table _ _ c.requires

pub loop-position-init : goal.loop-position-init
loop-position-init g c = at_number_start g.D.CodingDescriptor.table c.loop-group.invariant c.loop-group-test.true

pub overflow_add-at : goal.overflow_add-at
overflow_add-at g c =
    let there = at_number_there g.D.CodingDescriptor.table _ c.loop-position.invariant c.loop-position-test.true c.tag_len.ensures in
    search rules

pub slice_bounds-stored_number-end : goal.slice_bounds-stored_number-end
slice_bounds-stored_number-end g c =
    at_number_there g.D.CodingDescriptor.table _ c.loop-position.invariant c.loop-position-test.true c.tag_len.ensures

pub stored_number-value-requires-after_bounds : goal.stored_number-value-requires-after_bounds
stored_number-value-requires-after_bounds g c κs within =
    let e = g.D.Elem.Elem in
    let t = g.D.CodingDescriptor.table in
    let laws = g.met.D.CodingDescriptor in
    part-fits _ _ _ e.SIZE (lent-width e.SIZE t _ (c.loop-position.rest % 4) (widths_fit t e.SIZE laws.is_table laws.widest) c.tag_len.ensures)

pub loop-position-preserved : goal.loop-position-preserved
loop-position-preserved g c =
    elim c.if-rest-ne0.branch [
      | then-rest-ne0+else-len-tag_value w ↦
          let e = g.D.Elem.Elem in
          let v = w.stored_number-value in
          let f = w.tag_value in
          let read = part_is c.args.«data».now c.loop-position.at (get_or c.tag_len.result.now (c.loop-position.rest % 4) 0) v.ensures in
          at_number_next g.D.CodingDescriptor.table _ e.SIZE (e.number v.result) f.result.tag f.result.len c.loop-position.invariant c.loop-position-test.true
          c.tag_len.ensures read f.ensures w.if-len-tag_value.false
      | else-rest-ne0 w ↦
          let t = g.D.CodingDescriptor.table in
          let narrow = narrowest t c.tag_len.result.now c.args.«data».now _ c.loop-position.at (search rules) c.tag_len.ensures w.if-rest-ne0.false
          (λ i. (c.type_inv.«data» i).fits) in
          at_number_next t _ _ _ _ _ c.loop-position.invariant c.loop-position-test.true c.tag_len.ensures refl narrow refl
    ]

pub loop-group-preserved : goal.loop-group-preserved
loop-group-preserved g c = at_number_done g.D.CodingDescriptor.table c.loop-position.invariant c.loop-position-test.false

pub returns-then-len-tag_value : goal.returns-then-len-tag_value
returns-then-len-tag_value g c =
    let e = g.D.Elem.Elem in
    let v = c.stored_number-value in
    let f = c.tag_value in
    let read = part_is c.args.«data».now c.loop-position.at (get_or c.tag_len.result.now (c.loop-position.rest % 4) 0) v.ensures in
    sym (at_number_loose g.D.CodingDescriptor.table _ e.SIZE (e.number v.result) f.result.tag f.result.len c.loop-position.invariant c.loop-position-test.true
    c.tag_len.ensures read f.ensures c.if-len-tag_value.true)

pub returns : goal.returns
returns g c = sym (at_group_done g.D.CodingDescriptor.table c.loop-group.invariant c.loop-group-test.false)
