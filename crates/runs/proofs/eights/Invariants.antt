use Rattle.std.proofs.Common.{◌≡◌, ◌-◌, ◌%◌, map}
use Rattle.packed.proofs.Runs.{Running}
use Rattle.runs.proofs.eights.Given as goal

abbrev pub invariant-loop-i : goal.invariant-loop-i
invariant-loop-i g l =
    let d = g.D.CodingDescriptor in
    let e = g.D.Elem.Elem in
    let s = g.S.Sink in
    Running d.table e.modulus s.Fits s.Took g.met.S.Sink.laws l.tags l.«data» (map e.number l.initial.values) 0 l.to 0 (e.number l.initial.carried) l.i l.read (map e.number l.values) (e.number l.carried) × (l.i % 8 ≡ 0)

abbrev pub decreases-loop-i : goal.decreases-loop-i
decreases-loop-i g l = l.to - l.i
