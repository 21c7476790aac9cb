-- `encode_exactly` meets its contract: by the laws of its loop.
use Rattle.std.proofs.Common.{◌/◌, arith, length, refl, rules}
use Rattle.std.proofs.lemmas.List.{length-map}
use Rattle.packed.specs.Stages.{widest_group}
use Rattle.packed.proofs.Encodes.{encodes_most}
use Rattle.wide_stores.proofs.Columns.{room_left}
use Rattle.wide_stores.proofs.Sinks.{group_at, running_sink_next}
use Rattle.encode_impl.proofs.encode_exactly.Goals as goal

pub overflow_add-written : goal.overflow_add-written
overflow_add-written g c =
    let t = g.D.CodingDescriptor.table in
    let i = c.loop-i in
    let most = encodes_most t g.met.D.CodingDescriptor.is_table c.encode-e.ensures (rw length-map (search rules)) in
    let room = room_left (widest_group t) i.i (length c.args.values.now / 4) i.invariant.running.room (omega (arith, c.as_chunks.ensures.front_len)) c.requires.1 in
    omega (arith, most, room)

pub loop-i-preserved : goal.loop-i-preserved
loop-i-preserved g c =
    let e = c.encode-e in
    let group = c.index-groups-i in
    let vs = c.args.values.now in
    running_sink_next g.D.CodingDescriptor.table g.met.D.CodingDescriptor.is_table _ _ _ _ _ _ _ _ _ _ _ _ _ e.result.tag e.result.written _ e.new.output
    c.loop-i.invariant (omega (arith, c.as_chunks.ensures.front_len))
    (group_at g.D.Elem.Elem.number vs (length vs / 4) c.loop-i.i group.result _ c.as_chunks.ensures.front (omega (arith, c.as_chunks.ensures.front_len)) group.is)
    c.handle.ensures (rw length-map (search rules)) e.ensures refl
