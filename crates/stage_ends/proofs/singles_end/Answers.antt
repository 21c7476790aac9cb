-- `singles_end` meets its contract: by the laws of its loop.
use Rattle.std.proofs.Common.{arith, get_or}
use Rattle.packed.proofs.Ends.{group_most, at_singles_start, at_singles_next, at_singles_stop}
use Rattle.stage_ends.proofs.singles_end.Goals as goal

pub loop-i-init : goal.loop-i-init
loop-i-init g c = at_singles_start g.D.CodingDescriptor.table g.met.D.CodingDescriptor.is_table c.requires

pub overflow_add-read-in-loop-i : goal.overflow_add-read-in-loop-i
overflow_add-read-in-loop-i g c =
    let t = g.D.CodingDescriptor.table in
    let laws = g.met.D.CodingDescriptor in
    omega (arith, laws.widest, group_most t laws.is_table (get_or c.args.tags.now c.loop-i.i 0))

pub loop-i-preserved : goal.loop-i-preserved
loop-i-preserved g c =
    let t = g.D.CodingDescriptor.table in
    let laws = g.met.D.CodingDescriptor in
    at_singles_next t laws.is_table c.data_len-read.result c.loop-i.invariant c.loop-i-test.true c.data_len-read.ensures (omega (arith, laws.widest))

pub returns-then-read-SIZE : goal.returns-then-read-SIZE
returns-then-read-SIZE g c =
    let t = g.D.CodingDescriptor.table in
    let laws = g.met.D.CodingDescriptor in
    at_singles_stop t laws.is_table c.loop-i.invariant c.loop-i-test.true (omega (arith, laws.widest))
