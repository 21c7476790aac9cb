-- `chowder_decode_1234` hands on what `coder::decode` promises, its answer as numbers.
use Rattle.std.proofs.Common.{w32, rules}
use Rattle.elem.proofs.Elems.{fits_same}
use Rattle.chowderyard.proofs.Boundary.{handed_decoded}
use Rattle.chowderyard.proofs.calls1234.chowder_decode_1234.Goals as goal

pub returns : goal.returns
returns c =
    handed_decoded c.into.ensures (rw (fits_same w32 c.args.values.now (λ i. search rules), fits_same w32 c.decode.new.values c.type_inv.values) at c.decode.ensures)
