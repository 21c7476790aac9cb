-- `encode_to_sink` meets its contract: the front by whole words and the rest exactly.
use Rattle.std.proofs.Common.{ℕ, List, ◌≡◌, ◌-◌, ◌*◌, ◌/◌, map, length, take, drop, ap, sym, subst, ◌∙◌, arith}
use Rattle.std.proofs.lemmas.List.{take-map}
use Rattle.packed.specs.Stages.{widest_group}
use Rattle.packed.specs.Column.{RunsEncode}
use Rattle.wide_stores.specs.Wide.{left_behind, RunsWide}
use Rattle.wide_stores.proofs.Columns.{behind, map_behind, exact_most}
use Rattle.wide_stores.proofs.Ends.{wide_then_covered}
use Rattle.wide_stores.proofs.Sinks.{front_count, rest_count, runs_first, room_behind, room_both}
use Rattle.encode_impl.proofs.encode_to_sink.Goals as goal

pub encode_exactly-requires-after_bounds : goal.encode_exactly-requires-after_bounds
encode_exactly-requires-after_bounds g c κs within =
    let front = c.encode_front-written in
    room_behind (widest_group g.D.CodingDescriptor.table) c.front_end-front.result c.args.values.now front.new.tags front.new.«data» front.result
    c.front_end-front.ensures.inside front.ensures.most (omega arith) (omega arith)

pub overflow_add-result : goal.overflow_add-result
overflow_add-result g c =
    let t = g.D.CodingDescriptor.table in
    let front = c.encode_front-written in
    let both = room_both (widest_group t) c.front_end-front.result c.args.values.now
    c.front_end-front.ensures.inside front.ensures.most (exact_most t g.met.D.CodingDescriptor.is_table c.encode_exactly.ensures) c.requires.1 in
    omega (arith, both)

pub returns : goal.returns
returns g c =
    let t = g.D.CodingDescriptor.table in
    let f = g.D.Elem.Elem.number in
    let stored = g.S.EncodeSink.stored in
    let vs = c.args.values.now in
    let ds : List ℕ = stored c.args.sink (map f vs) in
    let end = c.front_end-front in
    let at : ℕ = 4 * end.result in
    let front = c.encode_front-written in
    let exact = c.encode_exactly in
    let first : stored c.args.sink (map f (take at vs)) ≡ take at ds =
    ap (stored c.args.sink) (sym (take-map f at vs)) ∙ sym (g.met.S.EncodeSink.prefix c.args.sink at (map f vs)) in
    let wide : RunsWide t (left_behind t) ds c.args.tags.now c.args.«data».now end.result front.result front.new.tags front.new.«data» =
    runs_first t (left_behind t) ds (stored c.args.sink (map f (take at vs))) _ _ _ _ _ _ first
    (subst (λ (n : ℕ). RunsWide t (left_behind t) (stored c.args.sink (map f (take at vs))) c.args.tags.now c.args.«data».now n front.result front.new.tags front.new.«data») (front_count end.result vs end.ensures.inside) front.ensures) in
    let rest : List ℕ = stored c.from-rest.result (map f (take (length vs - at) (drop at vs))) in
    wide_then_covered t g.met.D.CodingDescriptor.is_table (length vs / 4) exact.result rest exact.new.tags exact.new.«data» end.ensures c.requires.0 c.requires.1 wide
    (ap (stored c.from-rest.result) (map_behind f at vs) ∙ c.from-rest.ensures)
    (subst (λ (n : ℕ). RunsEncode t rest (behind end.result front.new.tags) (behind front.result front.new.«data») n exact.result exact.new.tags exact.new.«data») (rest_count end.result vs end.ensures.inside) exact.ensures)
