-- `encode_value` meets its contract: the shortest field and width, and the word covers that width.
use Rattle.std.proofs.Common.{arith}
use Rattle.wide_stores.specs.Wide.{left_behind}
use Rattle.wide_stores.proofs.Columns.{stores_word}
use Rattle.fast_encode.proofs.encode_value.Goals as goal

pub returns : goal.returns
returns g c =
    let e = g.D.Elem.Elem in
    let t = g.D.CodingDescriptor.table in
    let laws = g.met.D.CodingDescriptor in
    stores_word t laws.is_table e.SIZE (left_behind t) (e.number c.args.value) _ _ c.tag_value.result.tag c.tag_value.result.len c.store.new.output c.tag_value.ensures (omega (arith, laws.widest)) c.requires (rw c.SIZE.ensures at c.store.ensures)
