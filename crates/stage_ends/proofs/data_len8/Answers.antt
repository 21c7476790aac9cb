-- `data_len8` meets its contract: four lengths and four more.
use Rattle.std.proofs.Common.{ℕ, ◌+◌, arith, subst}
use native.Mathlib.Nat.{add_assoc}
use Rattle.packed.specs.Column.{Measured}
use Rattle.packed.proofs.Ends.{measured_join}
use Rattle.tag_words.proofs.Lengths.{four_measured}
use Rattle.stage_ends.proofs.Most.{four_most}
use Rattle.stage_ends.proofs.data_len8.Goals as goal

pub overflow_add-result : goal.overflow_add-result
overflow_add-result g c =
    let laws = g.met.D.CodingDescriptor in
    let most = four_most g.D.CodingDescriptor.table laws.is_table laws.widest g.met.D.Elem.Elem.few in
    omega (arith, c.data_len4.ensures, c.data_len4-2.ensures, most c.tags4.result, most c.tags4-2.result)

pub returns : goal.returns
returns g c =
    let a = c.args in
    let t = g.D.CodingDescriptor.table in
    let is = g.met.D.CodingDescriptor.is_table in
    let below = λ (j : ℕ). (c.type_inv.tags j).fits in
    subst (λ (n : ℕ). Measured t a.tags.now a.i n (c.data_len4.result + c.data_len4-2.result)) (add_assoc a.i 4 4)
    (measured_join t is
    (four_measured t is a.tags.now a.i c.tags4.result _ below (omega (arith, c.requires)) c.tags4.ensures c.data_len4.ensures)
    (four_measured t is a.tags.now (a.i + 4) c.tags4-2.result _ below (omega (arith, c.requires)) c.tags4-2.ensures c.data_len4-2.ensures))
