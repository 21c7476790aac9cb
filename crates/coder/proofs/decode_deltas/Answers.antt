-- `decode_deltas` meets its contract: rows 1, 2, 5, 6 and 7, and then the three stages.
use Rattle.std.proofs.Common.{ℕ, List, map, length, refl, sym, arith}
use Rattle.std.proofs.lemmas.List.{length-map}
use Rattle.packed.specs.Format.{walked}
use Rattle.packed.specs.Refusals.{Lent, lent_to_decode}
use Rattle.answers.proofs.Calls.{refuses, refuses_behind, accepts_behind, matched, decoding-refused, decoded_deltas_all}
use Rattle.answers.specs.Meaning.{count_rows, data_rows}
use Rattle.coder.proofs.Rows.{decoding_says}
use Rattle.coder.proofs.decode_deltas.Goals as goal

pub ready_ends-requires-after_bounds : goal.ready_ends-requires-after_bounds
ready_ends-requires-after_bounds g c κs within =
    let t = g.C.CodingDescriptor.table in
    let e = g.C.Elem.Elem in
    let vs : List ℕ = map e.number c.args.values.now in
    let l : Lent = lent_to_decode (length vs) c.args.tags.now (length c.args.«data».now) in
    let says = decoding_says t c.args.tags.now c.args.«data».now vs _ (length-map c.args.values.now e.number) c.in_ok-count_verdict.ensures in
    (matched (walked e.modulus (e.number c.args.initial)) t c.args.tags.now c.args.«data».now vs (sym says)).1

pub decode_deltas_stages-read-requires-clause-tags_in_bounds : goal.decode_deltas_stages-read-requires-clause-tags_in_bounds
decode_deltas_stages-read-requires-clause-tags_in_bounds g c κs within =
    let t = g.C.CodingDescriptor.table in
    let e = g.C.Elem.Elem in
    let vs : List ℕ = map e.number c.args.values.now in
    let l : Lent = lent_to_decode (length vs) c.args.tags.now (length c.args.«data».now) in
    let says = decoding_says t c.args.tags.now c.args.«data».now vs _ (length-map c.args.values.now e.number) c.in_ok-count_verdict.ensures in
    let fits = (matched (walked e.modulus (e.number c.args.initial)) t c.args.tags.now c.args.«data».now vs (sym says)).0 in
    omega (arith, fits, length-map c.args.values.now e.number)

pub returns-in_err-count_verdict : goal.returns-in_err-count_verdict
returns-in_err-count_verdict g c =
    let t = g.C.CodingDescriptor.table in
    let e = g.C.Elem.Elem in
    let vs : List ℕ = map e.number c.args.values.now in
    let l : Lent = lent_to_decode (length vs) c.args.tags.now (length c.args.«data».now) in
    let says = decoding_says t c.args.tags.now c.args.«data».now vs _ (length-map c.args.values.now e.number) c.in_err-count_verdict.ensures in
    decoding-refused (walked e.modulus (e.number c.args.initial)) t _ _ _ c.from_residual.result _ c.from_residual.ensures.1 (refuses t l count_rows data_rows _ says)

pub returns-in_err-ends : goal.returns-in_err-ends
returns-in_err-ends g c =
    let t = g.C.CodingDescriptor.table in
    let e = g.C.Elem.Elem in
    let vs : List ℕ = map e.number c.args.values.now in
    let l : Lent = lent_to_decode (length vs) c.args.tags.now (length c.args.«data».now) in
    let says = decoding_says t c.args.tags.now c.args.«data».now vs _ (length-map c.args.values.now e.number) c.in_ok-count_verdict.ensures in
    decoding-refused (walked e.modulus (e.number c.args.initial)) t _ _ _ c.from_residual-in_err-ends.result _ c.from_residual-in_err-ends.ensures.1
    (refuses_behind t l count_rows data_rows (sym says) _ (c.in_err-ends.ensures.verdict l refl refl))

pub returns : goal.returns
returns g c =
    let t = g.C.CodingDescriptor.table in
    let e = g.C.Elem.Elem in
    let vs : List ℕ = map e.number c.args.values.now in
    let l : Lent = lent_to_decode (length vs) c.args.tags.now (length c.args.«data».now) in
    let says = decoding_says t c.args.tags.now c.args.«data».now vs _ (length-map c.args.values.now e.number) c.in_ok-count_verdict.ensures in
    let fits = matched (walked e.modulus (e.number c.args.initial)) t c.args.tags.now c.args.«data».now vs (sym says) in
    decoded_deltas_all t _ _ _ _ fits.0 (accepts_behind t l count_rows data_rows (sym says) (c.in_ok-ends.ensures.verdict l refl refl)) c.decode_deltas_stages-read.ensures
