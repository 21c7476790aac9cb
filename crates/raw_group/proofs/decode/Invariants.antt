use Rattle.std.proofs.Common.{map}
use Rattle.packed.proofs.Loops.{Decoding}
use Rattle.raw_group.proofs.decode.Given as goal

abbrev pub invariant-loop-value : goal.invariant-loop-value
invariant-loop-value g l =
    let d = g.D.CodingDescriptor in
    let e = g.D.Elem.Elem in
    Decoding d.table l.input l.at l.tag e.SIZE l.value-index l.rest l.read (map e.number l.value-items)
