use Rattle.std.proofs.Common.{map}
use Rattle.packed.proofs.Loops.{Encoding}
use Rattle.raw_group.proofs.encode.Given as goal

abbrev pub invariant-loop-value : goal.invariant-loop-value
invariant-loop-value g l =
    let d = g.D.CodingDescriptor in
    let e = g.D.Elem.Elem in
    Encoding d.table (map e.number l.fn.group) l.initial.output l.at e.SIZE l.value-index l.tag l.written l.output
