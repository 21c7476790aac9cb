-- `data_len4_side_by_side` meets its contract: a test at each tag shows that the sums are its length.
use Rattle.std.proofs.Common.{ℕ, ◌+◌, ◌<◌, arith, rules, sym, ◌∙◌}
use native.Mathlib.Nat.{add-zero}
use Rattle.packed.specs.Format.{t0124, field, widths}
use Rattle.tag_words.specs.Words.{pairs_of}
use Rattle.tag_words.proofs.Words.{full_pairs, added, full_pairs_lem, pairs_most, full_most, most}
use Rattle.tag_words.proofs.Lengths.{right, four_lengths}
use Rattle.stage_ends.proofs.coder0124.Coder0124SideBySide.data_len4_side_by_side.Goals as goal

pub overflow_add-pairs : goal.overflow_add-pairs
overflow_add-pairs c =
    let x : ℕ = c.args.tag4 in
    let fits : x < 4294967296 = search rules in
    omega (
      arith,
      most pairs_of 102 x _ pairs_most fits c.pairs.ensures,
      most full_pairs 34 x _ full_most fits (full_pairs_lem x _ _ c.uppers.ensures c.pairs-2.ensures),
    )

pub returns : goal.returns
unfolding right widths field
returns c =
    let x : ℕ = c.args.tag4 in
    let side = added pairs_of full_pairs x _ _ c.pairs.ensures (full_pairs_lem x _ _ c.uppers.ensures c.pairs-2.ensures) in
    sym (add-zero c.sum_of_halves.result)
    ∙ four_lengths t0124 (λ tag. pairs_of tag + full_pairs tag) 0 tt x _ _ (search rules) side c.sum_of_halves.ensures.0
