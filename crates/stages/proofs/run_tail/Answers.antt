-- `run_tail` meets its contract: the run over the scratch is the run over the data.
use Rattle.std.proofs.Common.{arith, rules}
use Rattle.packed.proofs.Columns.{tail_same}
use Rattle.packed.proofs.Ends.{tail_windows}
use Rattle.packed.proofs.Runs.{made_moved}
use Rattle.stages.proofs.run_tail.Goals as goal

pub singles-rest-requires-clause-windows : goal.singles-rest-requires-clause-windows
singles-rest-requires-clause-windows g c κs within =
    let t = g.D.CodingDescriptor.table in
    let d = g.met.D.CodingDescriptor in
    tail_windows t d.is_table _ _ _ _ _ c.requires.tail (search rules) (omega (arith, d.widest, g.met.D.Elem.Elem.few))

pub returns : goal.returns
returns g c =
    let t = g.D.CodingDescriptor.table in
    let d = g.met.D.CodingDescriptor in
    made_moved t g.D.Elem.Elem.modulus g.S.Sink.Fits g.S.Sink.Took g.met.S.Sink.laws _ _ _ _ _ _
    (tail_same t _ _ _ _ _ c.requires.tail c.scratch-buf.ensures (omega (arith, d.widest, g.met.D.Elem.Elem.few)))
    c.singles-rest.ensures
