-- `by_zeros` meets its contract: the table has the shortest field and its width for each of the nine counts of zero bytes.
use Rattle.std.proofs.Common.{ℕ, refl, slice_index_or}
use Rattle.coding_descriptor.specs.declared.TagValue.{TagValue}
use Rattle.packed.specs.Format.{t1248}
use Rattle.wide_stores.proofs.Columns.{found_by_zeros}
use Rattle.fast_encode.specs.declared.coder1248.TheConstants.{BY_ZEROS}
use Rattle.fast_encode.proofs.coder1248.Coder1248FastEncode.by_zeros.Goals as goal

abbrev entry : ℕ → TagValue
entry z = slice_index_or BY_ZEROS z record { tag = 0; len = 0 }

pub returns : goal.returns
returns c = found_by_zeros t1248 8 (λ z. (entry z).tag) (λ z. (entry z).len) tt refl tt refl c.args.zeros
