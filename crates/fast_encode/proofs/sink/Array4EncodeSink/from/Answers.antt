-- `from` meets its contract: the value before the place is the last of the group before.
use Rattle.std.proofs.Common.{ℕ, ◌-◌, get_or, map, rules}
use Rattle.std.proofs.lemmas.List.{length-map}
use Rattle.elem.proofs.Elems.{read_at}
use Rattle.wide_stores.proofs.Ends.{steps_from}
use Rattle.fast_encode.proofs.sink.Array4EncodeSink.from.Goals as goal

pub returns-else-at-eq0 : goal.returns-else-at-eq0
returns-else-at-eq0 g c =
    let e = g.E.Elem in
    let s = c.args.values.now in
    let at : ℕ = c.args.at in
    rw (read_at e.number s (at - 1) _ (search rules) c.index-values-at.is)
    (steps_from e.modulus (get_or (map e.number c.args.self) 3 0) at (map e.number s) (search rules) (rw length-map c.requires))
