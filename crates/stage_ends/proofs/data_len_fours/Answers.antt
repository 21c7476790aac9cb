-- `data_len_fours` meets its contract: by the laws of its loop.
use Rattle.std.proofs.Common.{◌+◌, ◌*◌, arith}
use Rattle.tag_words.proofs.Lengths.{by_fours_start, by_fours_next, four_measured}
use Rattle.stage_ends.proofs.Most.{four_most, run_most}
use Rattle.stage_ends.proofs.data_len_fours.Goals as goal

pub loop-k-init : goal.loop-k-init
loop-k-init g c = by_fours_start g.D.CodingDescriptor.table g.met.D.CodingDescriptor.is_table _ _ _ c.requires.0 c.requires.1

pub overflow_add-len : goal.overflow_add-len
overflow_add-len g c =
    let t = g.D.CodingDescriptor.table in
    let laws = g.met.D.CodingDescriptor in
    let few = g.met.D.Elem.Elem.few in
    let s = c.loop-k.invariant in
    omega (
      arith,
      s.inside,
      s.limit,
      s.some,
      run_most t laws.is_table laws.widest few s.measured,
      c.data_len4_side_by_side-len.ensures,
      four_most t laws.is_table laws.widest few c.tags4.result,
    )

pub loop-k-preserved : goal.loop-k-preserved
loop-k-preserved g c =
    let t = g.D.CodingDescriptor.table in
    let is = g.met.D.CodingDescriptor.is_table in
    let s = c.loop-k.invariant in
    by_fours_next t is s c.loop-k-test.true
    (four_measured t is c.args.tags.now (c.args.from + 4 * c.loop-k.k) c.tags4.result _ (λ j. (c.type_inv.tags j).fits) (omega (arith, s.inside, c.loop-k-test.true))
    c.tags4.ensures c.data_len4_side_by_side-len.ensures)
