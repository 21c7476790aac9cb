-- `eight` meets its contract: by the laws of its loop.
use Rattle.std.proofs.Common.{◌+◌, get_or, arith}
use Rattle.std.proofs.lemmas.List.{length-map}
use Rattle.packed.proofs.Ends.{group_most}
use Rattle.packed.proofs.Runs.{window, running_from, running_step}
use Rattle.runs.proofs.eight.Goals as goal

pub loop-k-init : goal.loop-k-init
loop-k-init g c =
    running_from g.D.CodingDescriptor.table g.D.Elem.Elem.modulus g.S.Sink.Fits g.S.Sink.Took g.met.S.Sink.laws
    c.requires.windows (rw length-map c.requires.room) (g.met.D.Elem.Elem.below c.args.start)

pub overflow_add-read : goal.overflow_add-read
overflow_add-read g c =
    let t = g.D.CodingDescriptor.table in
    omega (
      arith,
      window t c.loop-k.invariant.way (omega arith),
      c.handle8-len.ensures.read,
      group_most t g.met.D.CodingDescriptor.is_table (get_or c.args.tags.now (c.args.i + c.loop-k.k) 0),
    )

pub loop-k-preserved : goal.loop-k-preserved
loop-k-preserved g c =
    running_step g.D.CodingDescriptor.table g.D.Elem.Elem.modulus g.S.Sink.Fits g.S.Sink.Took g.met.S.Sink.laws
    c.args.i c.loop-k.k _ _ _ c.loop-k.invariant (omega arith) c.handle8-len.ensures.read c.handle8-len.ensures.took
