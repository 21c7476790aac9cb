-- `tightness` meets its contract: rows 2 and 6, and then the search for the first loose number.
use Rattle.std.proofs.Common.{length, refl, sym, ap, ◌∙◌}
use Prim.Native.Nat.{zero-le}
use Rattle.packed.specs.Format.{data_len}
use Rattle.packed.specs.Refusals.{Lent, lent_to_read}
use Rattle.answers.proofs.Calls.{refuses, refuses_behind, accepts_behind, limited, data_there, whole, testing-refused, tested_all}
use Rattle.answers.specs.Meaning.{limit_row, missing_row}
use Rattle.coder.proofs.tightness.Goals as goal

pub data_len_from-requires-after_bounds : goal.data_len_from-requires-after_bounds
data_len_from-requires-after_bounds g c κs within =
    let t = g.C.CodingDescriptor.table in
    let l : Lent = lent_to_read c.args.tags.now (length c.args.«data».now) in
    (zero-le, limited t l (sym (c.in_ok-limit_verdict.ensures t l refl)))

pub first_loose-requires-after_bounds : goal.first_loose-requires-after_bounds
first_loose-requires-after_bounds g c κs within =
    let t = g.C.CodingDescriptor.table in
    let l : Lent = lent_to_read c.args.tags.now (length c.args.«data».now) in
    let says = c.in_ok-missing_verdict.ensures t l refl (sym (c.data_len_from.ensures.len ∙ ap (data_len t) (whole c.args.tags.now))) in
    data_there t l (sym says)

pub returns-in_err-limit_verdict : goal.returns-in_err-limit_verdict
returns-in_err-limit_verdict g c =
    let t = g.C.CodingDescriptor.table in
    let l : Lent = lent_to_read c.args.tags.now (length c.args.«data».now) in
    testing-refused t _ _ c.from_residual.result _ c.from_residual.ensures.1 (refuses t l limit_row missing_row _ (c.in_err-limit_verdict.ensures t l refl))

pub returns-in_err-missing_verdict : goal.returns-in_err-missing_verdict
returns-in_err-missing_verdict g c =
    let t = g.C.CodingDescriptor.table in
    let l : Lent = lent_to_read c.args.tags.now (length c.args.«data».now) in
    let says = c.in_err-missing_verdict.ensures t l refl (sym (c.data_len_from.ensures.len ∙ ap (data_len t) (whole c.args.tags.now))) in
    testing-refused t _ _ c.from_residual-in_err-missing_verdict.result _ c.from_residual-in_err-missing_verdict.ensures.1
    (refuses_behind t l limit_row missing_row (sym (c.in_ok-limit_verdict.ensures t l refl)) _ says)

pub returns : goal.returns
returns g c =
    let t = g.C.CodingDescriptor.table in
    let l : Lent = lent_to_read c.args.tags.now (length c.args.«data».now) in
    let says = c.in_ok-missing_verdict.ensures t l refl (sym (c.data_len_from.ensures.len ∙ ap (data_len t) (whole c.args.tags.now))) in
    c.first_loose.ensures ∙ tested_all t _ _ (accepts_behind t l limit_row missing_row (sym (c.in_ok-limit_verdict.ensures t l refl)) says)
