-- `ready_ends` meets its contract: rows 6 and 7.
use Rattle.std.proofs.Common.{ℕ, ◌*◌, ◌≤◌, length, refl, sym, ap, ap₂, ◌∙◌, arith}
use Rattle.std.proofs.lemmas.Nat.{mul-le}
use Rattle.packed.specs.Format.{data_len}
use Rattle.packed.specs.Stages.{widest_group, tail_takes, tail_copied}
use Rattle.packed.specs.Refusals.{Lent, lent_to_read}
use Rattle.packed.proofs.Ends.{all_read, len_most}
use Rattle.answers.specs.Meaning.{verdict_number}
use Rattle.answers.proofs.Calls.{handed_on, data_fits}
use Rattle.coder.proofs.ready_ends.Goals as goal

pub overflow_add-ends : goal.overflow_add-ends
overflow_add-ends g c =
    let t = g.C.CodingDescriptor.table in
    let is = g.met.C.CodingDescriptor.is_table in
    let n : ℕ = length c.args.tags.now in
    let widest : widest_group t ≤ 32 = omega (arith, g.met.C.CodingDescriptor.widest, g.met.C.Elem.Elem.few) in
    let most : widest_group t * n ≤ 32 * 16777216 = mul-le (widest_group t) n 32 16777216 widest c.requires in
    record { fits = omega (arith, all_read t is _ _ c.stage_ends-ends.ensures, len_most t is c.args.tags.now, most) }

pub returns-in_err-data_verdict-clause-verdict : goal.returns-in_err-data_verdict-clause-verdict
returns-in_err-data_verdict-clause-verdict g c l same bytes =
    let t = g.C.CodingDescriptor.table in
    let ends = c.stage_ends-ends.ensures in
    handed_on verdict_number c.from_residual.result _ c.from_residual.ensures.1
    ∙ c.in_err-data_verdict.ensures t l bytes (ap (data_len t) same ∙ sym (all_read t g.met.C.CodingDescriptor.is_table _ _ ends))
    (ap₂ (tail_copied t) same bytes ∙ sym ends.copied) (ap₂ (tail_takes t) same bytes ∙ sym ends.taken)

pub returns-clause-ready : goal.returns-clause-ready
returns-clause-ready g c =
    let t = g.C.CodingDescriptor.table in
    let l : Lent = lent_to_read c.args.tags.now (length c.args.«data».now) in
    let ends = c.stage_ends-ends.ensures in
    let says = c.in_ok-data_verdict.ensures t l refl (sym (all_read t g.met.C.CodingDescriptor.is_table _ _ ends)) (sym ends.copied) (sym ends.taken) in
    (ends, omega (arith, (data_fits t l (sym says)).1, ends.taken, ends.copied))

pub returns-clause-verdict : goal.returns-clause-verdict
returns-clause-verdict g c l same bytes =
    let t = g.C.CodingDescriptor.table in
    let ends = c.stage_ends-ends.ensures in
    c.in_ok-data_verdict.ensures t l bytes (ap (data_len t) same ∙ sym (all_read t g.met.C.CodingDescriptor.is_table _ _ ends))
    (ap₂ (tail_copied t) same bytes ∙ sym ends.copied) (ap₂ (tail_takes t) same bytes ∙ sym ends.taken)
