use Rattle.std.proofs.Common.{◌/◌, length, map}
use Rattle.wide_stores.specs.Wide.{left_behind}
use Rattle.wide_stores.proofs.Ends.{Covering}
use Rattle.front_end.proofs.front_end.Given as goal

abbrev pub invariant-loop-front : goal.invariant-loop-front
invariant-loop-front g l =
    let t = g.D.CodingDescriptor.table in
    Covering t (g.S.EncodeSink.stored l.fn.start (map g.D.Elem.Elem.number l.values)) (left_behind t) (length l.values / 4) l.front l.uncovered
