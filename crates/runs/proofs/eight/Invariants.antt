use Rattle.std.proofs.Common.{map, ◌+◌}
use Rattle.packed.proofs.Runs.{Running}
use Rattle.runs.proofs.eight.Given as goal

abbrev pub invariant-loop-k : goal.invariant-loop-k
invariant-loop-k g l =
    let d = g.D.CodingDescriptor in
    let e = g.D.Elem.Elem in
    let s = g.S.Sink in
    Running d.table e.modulus s.Fits s.Took g.met.S.Sink.laws l.tags l.«data» (map e.number l.initial.values) l.i (l.i + 8) l.at (e.number l.fn.start) (l.i + l.k) l.read (map e.number l.values) (e.number l.carried)
