-- `chowder_encode_deltas_0124` hands on what `coder::encode_deltas` promises, its answer as numbers.
use Rattle.std.proofs.Common.{◌≡◌, ◌%◌, w32, rules}
use native.Mathlib.Nat.{mod-eq_of_lt}
use Rattle.packed.specs.Format.{m32}
use Rattle.elem.proofs.Elems.{fits_same}
use Rattle.chowderyard.proofs.Boundary.{handed_encoded}
use Rattle.chowderyard.proofs.calls0124.chowder_encode_deltas_0124.Goals as goal

pub returns : goal.returns
returns c =
    let same : c.args.start % m32 ≡ c.args.start = mod-eq_of_lt (search rules) in
    handed_encoded c.into.ensures (rw (same, fits_same w32 c.args.values.now c.type_inv.values) at c.encode_deltas.ensures)
