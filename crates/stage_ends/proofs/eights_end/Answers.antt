-- `eights_end` meets its contract: by the laws of its loop.
use Rattle.std.proofs.Common.{◌≡◌, ℕ, ◌+◌, ◌*◌, ◌/◌, arith, subst}
use Rattle.packed.proofs.Ends.{AtEights, at_eights_next, at_eights_stop}
use Rattle.tag_words.proofs.Front.{at_eights_front}
use Rattle.stage_ends.proofs.eights_end.Goals as goal

pub loop-k-init : goal.loop-k-init
loop-k-init g c =
    let t = g.D.CodingDescriptor.table in
    let is = g.met.D.CodingDescriptor.is_table in
    let front = c.front_end-front.ensures in
    let n : ℕ = c.front_end-front.result.groups in
    let e : n ≡ 8 * (n / 8) = omega (arith, front.measured.1) in
    subst (λ (i : ℕ). AtEights t is c.args.tags.now c.args.«data».now i c.front_end-front.result.read) e
    (at_eights_front t is _ _ _ _ front.measured.0 front.measured.1 front.slack_there)

pub loop-k-preserved : goal.loop-k-preserved
loop-k-preserved g c =
    let t = g.D.CodingDescriptor.table in
    let is = g.met.D.CodingDescriptor.is_table in
    let next : 8 * c.loop-k.k + 8 ≡ 8 * (c.loop-k.k + 1) = omega arith in
    let len8 = c.data_len8-len8 in
    subst (λ (i : ℕ). AtEights t is c.args.tags.now c.args.«data».now i (c.loop-k.read + len8.result)) next
    (at_eights_next t is len8.result c.loop-k.invariant len8.ensures (omega arith))

pub returns-then-read-len8 : goal.returns-then-read-len8
returns-then-read-len8 g c =
    at_eights_stop g.D.CodingDescriptor.table g.met.D.CodingDescriptor.is_table c.data_len8-len8.result c.loop-k.invariant c.data_len8-len8.ensures (omega arith)
