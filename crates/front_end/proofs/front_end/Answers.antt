-- `front_end` meets its contract: by the laws of its loop.
use Rattle.std.proofs.Common.{ℕ, ◌-◌, ◌*◌, ◌/◌, arith, length, map, rules}
use Rattle.std.proofs.lemmas.List.{length-map}
use Rattle.wide_stores.proofs.Ends.{covering_next, covering_found}
use Rattle.wide_stores.proofs.Sinks.{group_at, sink_group}
use Rattle.front_end.proofs.front_end.Goals as goal

pub returns-then-uncovered-eq0 : goal.returns-then-uncovered-eq0
returns-then-uncovered-eq0 g c =
    let f = g.D.Elem.Elem.number in
    let vs = c.args.values.now in
    let back : ℕ = c.loop-front.front - 1 in
    let group = c.index-groups-front in
    let stored = c.handle-stored in
    let own = group_at f vs (length vs / 4) back group.result c.as_chunks.result.0.now c.as_chunks.ensures.front (omega (arith, c.as_chunks.ensures.front_len)) group.is in
    let next = covering_next _ _ _ _ back _ _ (map f stored.result) c.loop-front.invariant (omega arith)
    (sink_group (g.S.EncodeSink.stored c.from-sink.result) (g.S.EncodeSink.stored stored.new.self) (map f vs) (g.S.EncodeSink.stored c.args.start (map f vs)) (map f group.result) (map f stored.result) (4 * back)
    c.from-sink.ensures own stored.ensures (rw length-map (search rules))) c.least_group_len.ensures c.saturating_sub-uncovered.ensures in
    covering_found _ _ _ _ next c.if-uncovered-eq0.true

pub loop-front-preserved : goal.loop-front-preserved
loop-front-preserved g c =
    let f = g.D.Elem.Elem.number in
    let vs = c.args.values.now in
    let back : ℕ = c.loop-front.front - 1 in
    let group = c.index-groups-front in
    let stored = c.handle-stored in
    let own = group_at f vs (length vs / 4) back group.result c.as_chunks.result.0.now c.as_chunks.ensures.front (omega (arith, c.as_chunks.ensures.front_len)) group.is in
    let next = covering_next _ _ _ _ back _ _ (map f stored.result) c.loop-front.invariant (omega arith)
    (sink_group (g.S.EncodeSink.stored c.from-sink.result) (g.S.EncodeSink.stored stored.new.self) (map f vs) (g.S.EncodeSink.stored c.args.start (map f vs)) (map f group.result) (map f stored.result) (4 * back)
    c.from-sink.ensures own stored.ensures (rw length-map (search rules))) c.least_group_len.ensures c.saturating_sub-uncovered.ensures in
    next
