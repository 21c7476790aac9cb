-- `least_len` meets its contract: no number is narrower than the narrowest width, and one that is not 0 has a byte.
use Rattle.std.proofs.Common.{get_or, ◌<◌, ◌≤◌, arith, subst}
use Rattle.std.proofs.Math.Nat.{max-le}
use Rattle.packed.proofs.Loops.{at_most}
use Rattle.packed.proofs.Widths.{top}
use Rattle.elem.proofs.Elems.{top_is}
use Rattle.wide_stores.proofs.Ends.{width_least, some_least}
use Rattle.front_end.proofs.least_len.Goals as goal

pub returns : goal.returns
returns g c =
    let e = g.D.Elem.Elem in
    let t = g.D.CodingDescriptor.table in
    let laws = g.met.D.CodingDescriptor in
    let own = g.met.D.Elem.Elem in
    let v = e.number c.args.value in
    let below : v < top t = subst (λ n. v < n) (top_is t e.modulus e.SIZE laws.widest own.wraps) (own.below c.args.value) in
    let some = c.some_len.ensures in
    let narrow : get_or t 0 0 ≤ get_or t 3 0 = at_most (get_or t 3 0) t laws.is_table.last 0 in
    rw (c.max.ensures, c.tag_len.ensures)
    (max-le (width_least t laws.is_table v below) (some_least t laws.is_table.four v c.some_len.result below some.0 some.1), max-le (omega (arith, narrow, laws.widest, own.few)) (omega (arith, some.1)))
