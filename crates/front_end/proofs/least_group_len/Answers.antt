-- `least_group_len` meets its contract: four numbers have what each has.
use Rattle.std.proofs.Common.{ℕ, ◌≤◌, map, rules, subst}
use Rattle.std.proofs.lemmas.List.{length-map}
use Rattle.packed.specs.Format.{short_width}
use Rattle.elem.proofs.Elems.{number_at}
use Rattle.wide_stores.proofs.Ends.{four_least}
use Rattle.front_end.proofs.least_group_len.Goals as goal

pub returns : goal.returns
returns g c =
    let f = g.D.Elem.Elem.number in
    let t = g.D.CodingDescriptor.table in
    let group = c.args.group in
    four_least t (map f group) _ _ _ _ g.met.D.CodingDescriptor.is_table.four (rw length-map (search rules))
    (subst (λ (n : ℕ). c.least_len.result ≤ short_width t n) (number_at f group 0 c.index-group-0.result (search rules)) c.least_len.ensures.0)
    (subst (λ (n : ℕ). c.least_len-2.result ≤ short_width t n) (number_at f group 1 c.index-group-1.result (search rules)) c.least_len-2.ensures.0)
    (subst (λ (n : ℕ). c.least_len-3.result ≤ short_width t n) (number_at f group 2 c.index-group-2.result (search rules)) c.least_len-3.ensures.0)
    (subst (λ (n : ℕ). c.least_len-4.result ≤ short_width t n) (number_at f group 3 c.index-group-3.result (search rules)) c.least_len-4.ensures.0)
