-- `by_zeros` meets its contract: the table has the shortest field and its width for each of the five counts of zero bytes.
use Rattle.std.proofs.Common.{ℕ, refl, slice_index_or}
use Rattle.coding_descriptor.specs.declared.TagValue.{TagValue}
use Rattle.packed.specs.Format.{t0124}
use Rattle.wide_stores.proofs.Columns.{found_by_zeros}
use Rattle.fast_encode.specs.declared.coder0124.TheConstants.{BY_ZEROS}
use Rattle.fast_encode.proofs.coder0124.Coder0124FastEncode.by_zeros.Goals as goal

abbrev entry : ℕ → TagValue
entry z = slice_index_or BY_ZEROS z record { tag = 0; len = 0 }

pub returns : goal.returns
returns c = found_by_zeros t0124 4 (λ z. (entry z).tag) (λ z. (entry z).len) tt refl tt refl c.args.zeros
