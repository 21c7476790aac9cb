-- `data_len4_side_by_side` meets its contract: a test at each tag shows that the sums are its length but for four.
use Rattle.std.proofs.Common.{ℕ, ◌+◌, ◌*◌, ◌<◌, arith, rules}
use Rattle.packed.specs.Format.{t1248, field, widths}
use Rattle.tag_words.specs.Words.{pairs_of}
use Rattle.tag_words.proofs.Words.{upper_pairs, full_pairs, added, tripled, upper_pairs_lem, full_pairs_lem, pairs_most, upper_most, full_most, most}
use Rattle.tag_words.proofs.Lengths.{right, four_lengths}
use Rattle.stage_ends.proofs.coder1248.Coder1248SideBySide.data_len4_side_by_side.Goals as goal

pub overflow_add-pairs : goal.overflow_add-pairs
overflow_add-pairs c =
    let x : ℕ = c.args.tag4 in
    let fits : x < 4294967296 = search rules in
    omega (
      arith,
      most pairs_of 102 x _ pairs_most fits c.pairs.ensures,
      most upper_pairs 34 x _ upper_most fits (upper_pairs_lem x _ _ c.uppers-upper.ensures c.pairs-2.ensures),
    )

pub overflow_mul-pairs : goal.overflow_mul-pairs
overflow_mul-pairs c =
    let x : ℕ = c.args.tag4 in
    let fits : x < 4294967296 = search rules in
    omega (arith, most full_pairs 34 x _ full_most fits (full_pairs_lem x _ _ c.uppers-upper.ensures c.pairs-3.ensures))

pub overflow_add-pairs-2 : goal.overflow_add-pairs-2
overflow_add-pairs-2 c =
    let x : ℕ = c.args.tag4 in
    let fits : x < 4294967296 = search rules in
    omega (
      arith,
      most pairs_of 102 x _ pairs_most fits c.pairs.ensures,
      most upper_pairs 34 x _ upper_most fits (upper_pairs_lem x _ _ c.uppers-upper.ensures c.pairs-2.ensures),
      most full_pairs 34 x _ full_most fits (full_pairs_lem x _ _ c.uppers-upper.ensures c.pairs-3.ensures),
    )

pub returns : goal.returns
unfolding right widths field
returns c =
    let x : ℕ = c.args.tag4 in
    let up = c.uppers-upper.ensures in
    let two = added pairs_of upper_pairs x _ _ c.pairs.ensures (upper_pairs_lem x _ _ up c.pairs-2.ensures) in
    let side = added (λ tag. pairs_of tag + upper_pairs tag) (λ tag. 3 * full_pairs tag) x _ _ two (tripled full_pairs x _ (full_pairs_lem x _ _ up c.pairs-3.ensures)) in
    four_lengths t1248 (λ tag. pairs_of tag + upper_pairs tag + 3 * full_pairs tag) 4 tt x _ _ (search rules) side c.sum_of_halves.ensures.0
