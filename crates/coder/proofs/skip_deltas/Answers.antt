-- `skip_deltas` meets its contract: rows 2, 6 and 7, and then the three stages.
use Rattle.std.proofs.Common.{length, refl, sym}
use Rattle.packed.specs.Refusals.{Lent, lent_to_read}
use Rattle.answers.proofs.Calls.{refuses, refuses_behind, accepts_behind, limited, skipping-refused, skipped_all}
use Rattle.answers.specs.Meaning.{limit_row, data_rows}
use Rattle.coder.proofs.skip_deltas.Goals as goal

pub ready_ends-requires-after_bounds : goal.ready_ends-requires-after_bounds
ready_ends-requires-after_bounds g c κs within =
    let t = g.C.CodingDescriptor.table in
    let l : Lent = lent_to_read c.args.tags.now (length c.args.«data».now) in
    limited t l (sym (c.in_ok-limit_verdict.ensures t l refl))

pub returns-in_err-limit_verdict : goal.returns-in_err-limit_verdict
returns-in_err-limit_verdict g c =
    let t = g.C.CodingDescriptor.table in
    let e = g.C.Elem.Elem in
    let l : Lent = lent_to_read c.args.tags.now (length c.args.«data».now) in
    skipping-refused t _ _ e.modulus e.number c.from_residual.result _ c.from_residual.ensures.1
    (refuses t l limit_row data_rows _ (c.in_err-limit_verdict.ensures t l refl))

pub returns-in_err-ends : goal.returns-in_err-ends
returns-in_err-ends g c =
    let t = g.C.CodingDescriptor.table in
    let e = g.C.Elem.Elem in
    let l : Lent = lent_to_read c.args.tags.now (length c.args.«data».now) in
    skipping-refused t _ _ e.modulus e.number c.from_residual-in_err-ends.result _ c.from_residual-in_err-ends.ensures.1
    (refuses_behind t l limit_row data_rows (sym (c.in_ok-limit_verdict.ensures t l refl)) _ (c.in_err-ends.ensures.verdict l refl refl))

pub returns : goal.returns
returns g c =
    let t = g.C.CodingDescriptor.table in
    let e = g.C.Elem.Elem in
    let l : Lent = lent_to_read c.args.tags.now (length c.args.«data».now) in
    skipped_all t _ _ e.modulus e.number _
    (accepts_behind t l limit_row data_rows (sym (c.in_ok-limit_verdict.ensures t l refl)) (c.in_ok-ends.ensures.verdict l refl refl))
    c.skip_deltas_stages-read.ensures
