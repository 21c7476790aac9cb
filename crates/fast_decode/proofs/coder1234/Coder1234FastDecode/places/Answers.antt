-- `places` meets its contract: the rule is one test over the whole table, which antt computes.
use Rattle.packed.specs.Format.{field, widths, t1234}
use Rattle.places.proofs.Tables.{place_right, places_right}
use Rattle.fast_decode.specs.declared.coder1234.TheConstants.{PLACES}
use Rattle.fast_decode.proofs.coder1234.Coder1234FastDecode.places.Goals as goal

pub returns : goal.returns
unfolding place_right widths field
returns c = places_right t1234 PLACES tt
