-- `data_len_from` meets its contract: the fours, and then one length after the other.
use Rattle.std.proofs.Common.{ℕ, ◌+◌, ◌-◌, ◌*◌, ◌/◌, ◌<◌, arith, subst, ap, ◌∙◌, length, take, drop, get_or}
use Rattle.std.proofs.lemmas.List.{get_or-drop, get_or-take, length-drop, length-take-le}
use native.Mathlib.Nat.{add_assoc}
use Rattle.packed.specs.Column.{Measured}
use Rattle.packed.specs.Format.{total, widths}
use Rattle.packed.proofs.Ends.{measured_one, measured_join}
use Rattle.stage_ends.proofs.Most.{one_most, run_most}
use Rattle.stage_ends.proofs.data_len_from.Goals as goal

pub overflow_add-len : goal.overflow_add-len
overflow_add-len g c =
    let t = g.D.CodingDescriptor.table in
    let laws = g.met.D.CodingDescriptor in
    let few = g.met.D.Elem.Elem.few in
    let tags = c.args.tags.now in
    let n : ℕ = c.args.from + 4 * ((length tags - c.args.from) / 4) in
    let s = c.loop-tag.invariant in
    omega (
      arith,
      s.0,
      s.1.inside,
      run_most t laws.is_table laws.widest few {b = n + c.loop-tag.tag-index} s.1,
      c.data_len-len.ensures,
      one_most t laws.is_table laws.widest few (get_or (take (length tags - n) (drop n tags)) c.loop-tag.tag-index 0),
    )

pub loop-tag-preserved : goal.loop-tag-preserved
loop-tag-preserved g c =
    let t = g.D.CodingDescriptor.table in
    let is = g.met.D.CodingDescriptor.is_table in
    let tags = c.args.tags.now in
    let n : ℕ = c.args.from + 4 * ((length tags - c.args.from) / 4) in
    let k : ℕ = c.loop-tag.tag-index in
    let s = c.loop-tag.invariant in
    let inside : n + k < length tags = omega (arith, c.loop-tag-test.true, length-take-le (length tags - n) (drop n tags), length-drop n tags) in
    let few : k < length tags - n = omega (arith, inside) in
    let read = get_or-take (length tags - n) (drop n tags) k 0 few ∙ get_or-drop n tags k 0 in (
      s.0,
      subst (λ (j : ℕ). Measured t tags c.args.from j (c.loop-tag.len + c.data_len-len.result)) (add_assoc n k 1)
          (measured_join t is s.1 (measured_one t is tags (n + k) c.data_len-len.result inside (c.data_len-len.ensures ∙ ap (λ (tag : ℕ). total (widths t tag)) read))),
    )
