use Rattle.packed.proofs.Loops.{Storing}
use Rattle.raw_group.proofs.store.Given as goal

abbrev pub invariant-loop-byte : goal.invariant-loop-byte
invariant-loop-byte g l = Storing l.len (g.E.Elem.number l.fn.value) l.byte-index l.rest l.byte-items
