-- `data_len` meets its contract: row 2, and then the lengths of all tags.
use Rattle.std.proofs.Common.{[], refl, sym}
use Prim.Native.Nat.{zero-le}
use Rattle.packed.specs.Refusals.{Lent, lent_to_read}
use Rattle.answers.proofs.Calls.{refuses, limited, measuring-refused, measured_all}
use Rattle.answers.specs.Meaning.{limit_row}
use Rattle.coder.proofs.data_len.Goals as goal

pub data_len_from-requires-after_bounds : goal.data_len_from-requires-after_bounds
data_len_from-requires-after_bounds g c κs within =
    let t = g.C.CodingDescriptor.table in
    let l : Lent = lent_to_read c.args.tags.now 0 in
    (zero-le, limited t l (sym (c.in_ok-limit_verdict.ensures t l refl)))

pub returns-in_err-limit_verdict : goal.returns-in_err-limit_verdict
returns-in_err-limit_verdict g c =
    let t = g.C.CodingDescriptor.table in
    let l : Lent = lent_to_read c.args.tags.now 0 in
    measuring-refused t _ c.from_residual.result _ c.from_residual.ensures.1 (refuses t l limit_row [] _ (c.in_err-limit_verdict.ensures t l refl))

pub returns : goal.returns
returns g c =
    let t = g.C.CodingDescriptor.table in
    let l : Lent = lent_to_read c.args.tags.now 0 in
    measured_all t _ (sym (c.in_ok-limit_verdict.ensures t l refl)) c.data_len_from.ensures
