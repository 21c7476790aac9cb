use Rattle.tag_words.proofs.Lengths.{ByFours}
use Rattle.stage_ends.proofs.data_len_fours.Given as goal

abbrev pub invariant-loop-k : goal.invariant-loop-k
invariant-loop-k g l = ByFours g.D.CodingDescriptor.table g.met.D.CodingDescriptor.is_table l.tags l.from l.fours l.k l.len
