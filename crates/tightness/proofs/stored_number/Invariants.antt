use Rattle.packed.proofs.Tight.{Gathering}
use Rattle.tightness.proofs.stored_number.Given as goal

abbrev pub invariant-loop-byte : goal.invariant-loop-byte
invariant-loop-byte g l =
    (goal.iterator-loop-byte g).can_next l.byte-iterator
    × (goal.iterator-loop-byte g).is_finite l.byte-iterator
    × Gathering l.bytes l.byte-iterator.iter.rest.now (g.E.Elem.number l.value)
