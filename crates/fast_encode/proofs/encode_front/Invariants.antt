use Rattle.std.proofs.Common.{◌/◌, length, map}
use Rattle.wide_stores.specs.Wide.{left_behind}
use Rattle.wide_stores.proofs.Sinks.{RunningWideSink}
use Rattle.fast_encode.proofs.encode_front.Given as goal

abbrev pub invariant-loop-i : goal.invariant-loop-i
invariant-loop-i g l =
    let t = g.D.CodingDescriptor.table in
    let vs = map g.D.Elem.Elem.number l.values in
    let stored = g.S.EncodeSink.stored in
    RunningWideSink t (left_behind t) (stored l.sink) vs (stored l.initial.sink vs) l.initial.tags l.initial.data (length l.values / 4) l.i l.written l.tags l.«data»
