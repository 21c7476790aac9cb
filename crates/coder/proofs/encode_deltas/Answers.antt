-- `encode_deltas` meets its contract: rows 1 to 4, and then a run over the groups.
use Rattle.std.proofs.Common.{ℕ, List, [], ◌*◌, map, length, sym, ap, ◌∙◌, arith, rules}
use Rattle.std.proofs.lemmas.List.{length-map}
use Rattle.packed.specs.Format.{steps}
use Rattle.packed.proofs.Deltas.{steps-length}
use Rattle.packed.specs.Refusals.{lent_to_encode, encoding_rows}
use Rattle.answers.proofs.Calls.{refuses, allowed, encoding-refused, encoded_deltas_all}
use Rattle.coder.proofs.Rows.{encoding_says}
use Rattle.coder.proofs.encode_deltas.Goals as goal

pub encode_deltas_groups-requires : goal.encode_deltas_groups-requires
encode_deltas_groups-requires g c =
    let a = c.args in
    let t = g.C.CodingDescriptor.table in
    let vs : List ℕ = map g.C.Elem.Elem.number a.values.now in
    let m : ℕ = g.C.Elem.Elem.modulus in
    let p : ℕ = g.C.Elem.Elem.number a.initial in
    let ds : List ℕ = steps m p vs in
    let same = steps-length m p vs ∙ length-map a.values.now g.C.Elem.Elem.number in
    let widest = ap (λ (n : ℕ). 4 * n) (g.met.C.CodingDescriptor.widest ∙ sym c.SIZE.ensures) in
    let may = allowed t ds a.tags.now a.«data».now (sym (encoding_says t a.tags.now a.«data».now ds _ same _ widest c.in_ok-encode_verdict.ensures)) in
    (search rules, (omega (arith, may.2, same), rw (sym same) may.3))

pub returns-in_err-encode_verdict : goal.returns-in_err-encode_verdict
returns-in_err-encode_verdict g c =
    let a = c.args in
    let t = g.C.CodingDescriptor.table in
    let vs : List ℕ = map g.C.Elem.Elem.number a.values.now in
    let m : ℕ = g.C.Elem.Elem.modulus in
    let p : ℕ = g.C.Elem.Elem.number a.initial in
    let ds : List ℕ = steps m p vs in
    let same = steps-length m p vs ∙ length-map a.values.now g.C.Elem.Elem.number in
    let widest = ap (λ (n : ℕ). 4 * n) (g.met.C.CodingDescriptor.widest ∙ sym c.SIZE.ensures) in
    let says = encoding_says t a.tags.now a.«data».now ds _ same _ widest c.in_err-encode_verdict.ensures in
    encoding-refused t ds _ _ c.from_residual.result _ c.from_residual.ensures.1 (refuses t (lent_to_encode (length ds) a.tags.now (length a.«data».now)) encoding_rows [] _ says)

pub returns : goal.returns
returns g c =
    let a = c.args in
    let t = g.C.CodingDescriptor.table in
    let vs : List ℕ = map g.C.Elem.Elem.number a.values.now in
    let m : ℕ = g.C.Elem.Elem.modulus in
    let p : ℕ = g.C.Elem.Elem.number a.initial in
    let ds : List ℕ = steps m p vs in
    let same = steps-length m p vs ∙ length-map a.values.now g.C.Elem.Elem.number in
    let widest = ap (λ (n : ℕ). 4 * n) (g.met.C.CodingDescriptor.widest ∙ sym c.SIZE.ensures) in
    let says = encoding_says t a.tags.now a.«data».now ds _ same _ widest c.in_ok-encode_verdict.ensures in
    encoded_deltas_all t g.met.C.CodingDescriptor.is_table m p vs _ _ (sym says) (rw (length-map a.values.now g.C.Elem.Elem.number) c.encode_deltas_groups.ensures)
