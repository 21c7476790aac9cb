-- `number` meets its contract: the mask of a width keeps its bytes alone.
use Rattle.std.proofs.Common.{ℕ, List, drop, ◌∙◌}
use Rattle.packed.proofs.Bytes.{masked, below-drop}
use Rattle.raw_group.proofs.number.Goals as goal

pub returns : goal.returns
returns g c =
    let a = c.args in
    let e = g.E.Elem in
    let s : List ℕ = a.input.now in
    c.masked.ensures ∙ masked a.len e.SIZE (e.number c.load.result) (e.number a.mask) (drop a.at s) (below-drop 256 a.at s (λ i. (c.type_inv.input i).fits))
    c.requires.mask.0 c.load.ensures c.requires.mask.1
