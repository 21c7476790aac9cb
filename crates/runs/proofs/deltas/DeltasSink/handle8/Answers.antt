-- The last of the four values is the one that the group's deltas come to.
use Rattle.std.proofs.Common.{map, rules}
use Rattle.std.proofs.lemmas.List.{length-map}
use Rattle.packed.proofs.Sinks.{walks_one}
use Rattle.elem.proofs.Elems.{number_at}
use Rattle.runs.proofs.deltas.DeltasSink.handle8.Goals as goal

pub returns-clause-took : goal.returns-clause-took
returns-clause-took g c =
    let e = g.D.Elem.Elem in
    let group = c.decode_deltas-len.result.1 in
    walks_one e.modulus (e.number c.args.carried) _ (map e.number group) _ _ _ _ (g.met.D.Elem.Elem.below c.args.carried)
    (rw length-map (search rules)) c.decode_deltas-len.ensures.group (number_at e.number group 3 _ (search rules)) c.store_group.ensures
