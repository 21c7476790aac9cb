-- `encode` meets its contract: by the laws of its loop.
use Rattle.std.proofs.Common.{map, subst, ap, rules, ◌∙◌, ◌+◌}
use Rattle.std.proofs.lemmas.List.{length-map}
use Rattle.std.proofs.lemmas.List.Edits.{sets}
use Rattle.packed.specs.Format.{le_bytes}
use Rattle.packed.proofs.Bytes.{Below}
use Rattle.packed.proofs.Loops.{encoding_start, encoding_next}
use Rattle.elem.proofs.Elems.{number_at, below_map, modulus_pos, top_is}
use Rattle.raw_group.proofs.encode.Goals as goal

pub loop-value-init : goal.loop-value-init
loop-value-init g c =
    let e = g.D.Elem.Elem in
    let t = g.D.CodingDescriptor.table in
    let laws = g.met.D.CodingDescriptor in
    let own = g.met.D.Elem.Elem in
    let below = below_map e.number e.modulus (modulus_pos e.modulus e.SIZE own.wraps) own.below c.args.group in
    encoding_start t (map e.number c.args.group) _ _ e.SIZE laws.is_table.four (rw length-map (search rules))
    (subst (λ m. Below m (map e.number c.args.group)) (top_is t e.modulus e.SIZE laws.widest own.wraps) below)

pub loop-value-preserved : goal.loop-value-preserved
loop-value-preserved g c =
    let e = g.D.Elem.Elem in
    let k = c.loop-value in
    let vt = c.tag_value-vt in
    let read = number_at e.number c.args.group k.value-index c.value-item.result (search rules) in
    encoding_next _ _ c.store.new.output k.invariant (search rules) (rw length-map (search rules))
    (rw read at vt.ensures) (c.store.ensures ∙ ap (λ v. sets k.output (c.args.at + k.written) (le_bytes vt.result.len v)) read)
