-- `places` meets its contract: the rule is one test over the whole table, which antt computes.
use Rattle.packed.specs.Format.{field, widths, t1248}
use Rattle.places.proofs.Tables.{place_right, places_right}
use Rattle.fast_decode.specs.declared.coder1248.TheConstants.{PLACES}
use Rattle.fast_decode.proofs.coder1248.Coder1248FastDecode.places.Goals as goal

pub returns : goal.returns
unfolding place_right widths field
returns c = places_right t1248 PLACES tt
