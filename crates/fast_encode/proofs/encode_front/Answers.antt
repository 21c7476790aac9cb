-- `encode_front` meets its contract: by the laws of its loop.
use Rattle.std.proofs.Common.{arith, rules, refl}
use Rattle.std.proofs.lemmas.List.{length-map}
use Rattle.wide_stores.proofs.Sinks.{group_at, running_wide_sink_next}
use Rattle.fast_encode.proofs.encode_front.Goals as goal

pub loop-i-preserved : goal.loop-i-preserved
loop-i-preserved g c =
    let f = g.D.Elem.Elem.number in
    let e = c.encode-e in
    let group = c.index-groups-i in
    running_wide_sink_next g.D.CodingDescriptor.table g.met.D.CodingDescriptor.is_table _ _ _ _ _ _ _ _ _ _ _ _ _ _ e.result.tag e.result.written _ e.new.output
    c.loop-i.invariant (omega (arith, c.as_chunks.ensures.front_len)) (group_at f c.args.values.now _ c.loop-i.i group.result _ c.as_chunks.ensures.front (omega (arith, c.as_chunks.ensures.front_len)) group.is)
    c.handle.ensures (rw length-map (search rules)) e.ensures refl
