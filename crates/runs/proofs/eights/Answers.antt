-- `eights` meets its contract: by the laws of its loop.
use Rattle.std.proofs.Common.{◌+◌, arith, rules}
use Rattle.std.proofs.lemmas.List.{length-map}
use Rattle.packed.proofs.Runs.{windows_part, running_start, running_part, running_done}
use Rattle.runs.proofs.eights.Goals as goal
use Rattle.runs.proofs.eights.Goals.{else-loop-i-test, then-loop-i-test+else-to-i-gt8}

pub loop-i-init : goal.loop-i-init
loop-i-init g c = (
  running_start g.D.CodingDescriptor.table g.D.Elem.Elem.modulus g.S.Sink.Fits g.S.Sink.Took g.met.S.Sink.laws
      c.requires.windows.0 (rw length-map c.requires.room) (g.met.D.Elem.Elem.below c.args.start),
  search rules,
)

pub eight-requires-clause-windows : goal.eight-requires-clause-windows
eight-requires-clause-windows g c κs within = windows_part g.D.CodingDescriptor.table (c.loop-i.i + 8) c.loop-i.invariant.0.way (omega arith) (omega arith)

pub loop-i-preserved : goal.loop-i-preserved
loop-i-preserved g c = (
  running_part g.D.CodingDescriptor.table g.D.Elem.Elem.modulus g.S.Sink.Fits g.S.Sink.Took g.met.S.Sink.laws
      (c.loop-i.i + 8) _ _ c.loop-i.invariant.0 (omega arith) (omega arith) c.eight.ensures,
  omega arith,
)

pub returns : goal.returns
returns g c =
    let t = g.D.CodingDescriptor.table in
    let m = g.D.Elem.Elem.modulus in
    let s = g.S.Sink in
    let laws = g.met.S.Sink.laws in
    let r = c.loop-i.invariant.0 in
    elim c.loop-i-test.branch [
      | else-loop-i-test w ↦ rw (w.read-is, w.carried-is, w.values-is) (running_done t m s.Fits s.Took laws r w.loop-i-test.false)
      | then-loop-i-test+else-to-i-gt8 w ↦ rw (w.read-is, w.carried-is, w.values-is)
          (running_done t m s.Fits s.Took laws
          (running_part t m s.Fits s.Took laws (c.loop-i.i + 8) _ _ r (omega arith) (omega arith) w.eight.ensures) (omega arith))
    ]
