-- A table of lengths keeps to its rule where one test over the whole table passes. Assumes nothing.
use Rattle.std.proofs.Common.{ℕ, Bool, T, eqb, List, get_or, eqb→eq}
use Rattle.packed.specs.Format.{total, widths}
use Rattle.packed.proofs.Table.{every, at}
use Rattle.tag_utils.specs.Tables.{Lengths}

abbrev pub right : List ℕ → List ℕ → ℕ → Bool
right t lens tag = eqb (get_or lens tag 0) (total (widths t tag))

pub lengths_right : (t lens : List ℕ) → T (every 256 (right t lens)) → Lengths t lens
lengths_right t lens test tag h = eqb→eq (get_or lens tag 0) (total (widths t tag)) (at 256 (right t lens) test tag h)
