-- `data_len4_side_by_side` meets its contract: a test at each tag shows that the sums are its length but for four.
use Rattle.std.proofs.Common.{rules}
use Rattle.packed.specs.Format.{t1234, field, widths}
use Rattle.tag_words.specs.Words.{pairs_of}
use Rattle.tag_words.proofs.Lengths.{right, four_lengths}
use Rattle.stage_ends.proofs.coder1234.Coder1234SideBySide.data_len4_side_by_side.Goals as goal

pub returns : goal.returns
unfolding right widths field
returns c = four_lengths t1234 pairs_of 4 tt c.args.tag4 _ _ (search rules) c.pairs.ensures c.sum_of_halves.ensures.0
