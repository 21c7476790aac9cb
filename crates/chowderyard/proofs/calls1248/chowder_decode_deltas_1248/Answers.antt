-- `chowder_decode_deltas_1248` hands on what `coder::decode_deltas` promises, its answer as numbers.
use Rattle.std.proofs.Common.{◌≡◌, ◌%◌, w64, rules}
use native.Mathlib.Nat.{mod-eq_of_lt}
use Rattle.packed.specs.Format.{m64}
use Rattle.elem.proofs.Elems.{fits_same}
use Rattle.chowderyard.proofs.Boundary.{handed_decoded}
use Rattle.chowderyard.proofs.calls1248.chowder_decode_deltas_1248.Goals as goal

pub returns : goal.returns
returns c =
    let same : c.args.start % m64 ≡ c.args.start = mod-eq_of_lt (search rules) in
    handed_decoded c.into.ensures (rw (same, fits_same w64 c.args.values.now (λ i. search rules), fits_same w64 c.decode_deltas.new.values c.type_inv.values) at c.decode_deltas.ensures)
