use Rattle.std.proofs.Common.{◌/◌, length, map}
use Rattle.wide_stores.proofs.Sinks.{RunningSink}
use Rattle.encode_impl.proofs.encode_exactly.Given as goal

abbrev pub invariant-loop-i : goal.invariant-loop-i
invariant-loop-i g l =
    let vs = map g.D.Elem.Elem.number l.values in
    let stored = g.S.EncodeSink.stored in
    RunningSink g.D.CodingDescriptor.table (stored l.sink) vs (stored l.initial.sink vs) l.initial.tags l.initial.data (length l.values / 4) l.i l.written l.tags l.«data»
