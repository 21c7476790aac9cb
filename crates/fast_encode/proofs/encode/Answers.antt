-- `encode` meets its contract: four numbers, one behind the other.
use Rattle.std.proofs.Common.{rules, map}
use Rattle.std.proofs.lemmas.List.{length-map}
use Rattle.elem.proofs.Elems.{number_at}
use Rattle.wide_stores.proofs.Columns.{encodes_four}
use Rattle.fast_encode.proofs.encode.Goals as goal

pub returns : goal.returns
returns g c =
    let f = g.D.Elem.Elem.number in
    let s = c.args.group in
    encodes_four (map f s) (rw length-map (search rules))
    (rw (number_at f s 0 c.index-group-0.result (search rules)) at c.encode_value-first.ensures)
    (rw (number_at f s 1 c.index-group-1.result (search rules)) at c.encode_value-second.ensures)
    (rw (number_at f s 2 c.index-group-2.result (search rules)) at c.encode_value-third.ensures)
    (rw (number_at f s 3 c.index-group-3.result (search rules)) at c.encode_value-fourth.ensures)
