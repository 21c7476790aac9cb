-- `encode` meets its contract: rows 1 to 4, and then a run over the groups.
use Rattle.std.proofs.Common.{ℕ, List, [], ◌*◌, map, length, sym, ap, ◌∙◌, arith, rules}
use Rattle.std.proofs.lemmas.List.{length-map}
use Rattle.packed.specs.Refusals.{lent_to_encode, encoding_rows}
use Rattle.answers.proofs.Calls.{refuses, allowed, encoding-refused, encoded_all}
use Rattle.coder.proofs.Rows.{encoding_says}
use Rattle.coder.proofs.encode.Goals as goal

pub encode_groups-requires : goal.encode_groups-requires
encode_groups-requires g c =
    let a = c.args in
    let t = g.C.CodingDescriptor.table in
    let vs : List ℕ = map g.C.Elem.Elem.number a.values.now in
    let same = length-map a.values.now g.C.Elem.Elem.number in
    let widest = ap (λ (n : ℕ). 4 * n) (g.met.C.CodingDescriptor.widest ∙ sym c.SIZE.ensures) in
    let may = allowed t vs a.tags.now a.«data».now (sym (encoding_says t a.tags.now a.«data».now vs _ same _ widest c.in_ok-encode_verdict.ensures)) in
    (search rules, (omega (arith, may.2, same), rw (sym same) may.3))

pub returns-in_err-encode_verdict : goal.returns-in_err-encode_verdict
returns-in_err-encode_verdict g c =
    let a = c.args in
    let t = g.C.CodingDescriptor.table in
    let vs : List ℕ = map g.C.Elem.Elem.number a.values.now in
    let same = length-map a.values.now g.C.Elem.Elem.number in
    let widest = ap (λ (n : ℕ). 4 * n) (g.met.C.CodingDescriptor.widest ∙ sym c.SIZE.ensures) in
    let says = encoding_says t a.tags.now a.«data».now vs _ same _ widest c.in_err-encode_verdict.ensures in
    encoding-refused t vs _ _ c.from_residual.result _ c.from_residual.ensures.1 (refuses t (lent_to_encode (length vs) a.tags.now (length a.«data».now)) encoding_rows [] _ says)

pub returns : goal.returns
returns g c =
    let a = c.args in
    let t = g.C.CodingDescriptor.table in
    let vs : List ℕ = map g.C.Elem.Elem.number a.values.now in
    let same = length-map a.values.now g.C.Elem.Elem.number in
    let widest = ap (λ (n : ℕ). 4 * n) (g.met.C.CodingDescriptor.widest ∙ sym c.SIZE.ensures) in
    let says = encoding_says t a.tags.now a.«data».now vs _ same _ widest c.in_ok-encode_verdict.ensures in
    encoded_all t vs _ _ g.met.C.CodingDescriptor.is_table (sym says) (rw same c.encode_groups.ensures)
