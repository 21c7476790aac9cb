-- `singles` meets its contract: by the laws of its loop.
use Rattle.std.proofs.Common.{get_or, arith}
use Rattle.std.proofs.lemmas.List.{length-map}
use Rattle.packed.proofs.Ends.{group_most}
use Rattle.packed.proofs.Runs.{window, running_start, running_next}
use Rattle.runs.proofs.singles.Goals as goal

pub loop-i-init : goal.loop-i-init
loop-i-init g c =
    running_start g.D.CodingDescriptor.table g.D.Elem.Elem.modulus g.S.Sink.Fits g.S.Sink.Took g.met.S.Sink.laws
    c.requires.windows (rw length-map c.requires.room) (g.met.D.Elem.Elem.below c.args.start)

pub overflow_add-read : goal.overflow_add-read
overflow_add-read g c =
    let t = g.D.CodingDescriptor.table in
    omega (
      arith,
      window t c.loop-i.invariant.way c.loop-i-test.true,
      c.handle1-len.ensures.read,
      group_most t g.met.D.CodingDescriptor.is_table (get_or c.args.tags.now c.loop-i.i 0),
    )

pub loop-i-preserved : goal.loop-i-preserved
loop-i-preserved g c =
    running_next g.D.CodingDescriptor.table g.D.Elem.Elem.modulus g.S.Sink.Fits g.S.Sink.Took g.met.S.Sink.laws
    _ _ _ c.loop-i.invariant c.loop-i-test.true c.handle1-len.ensures.read c.handle1-len.ensures.took
