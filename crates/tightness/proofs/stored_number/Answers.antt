-- `stored_number` meets its contract: by the laws of its loop.
use Rattle.std.proofs.Common.{rules}
use Rattle.packed.proofs.Tight.{gathering_start, gathering_next, gathering_next_fits, gathering_done}
use Rattle.tightness.proofs.stored_number.Goals as goal

pub loop-byte-init : goal.loop-byte-init
loop-byte-init g c = (search rules, search rules, rw c.zero-value.ensures (gathering_start c.args.bytes.now _ (search rules)))

pub with_low_byte-value-requires-after_bounds : goal.with_low_byte-value-requires-after_bounds
with_low_byte-value-requires-after_bounds g c κs within =
    rw (g.met.E.Elem.wraps) (gathering_next_fits _ _ g.E.Elem.SIZE c.loop-byte.invariant.2 c.in-Some.ensures.steps (λ i. (c.type_inv.bytes i).fits) c.requires)

pub loop-byte-preserved : goal.loop-byte-preserved
loop-byte-preserved g c = (search rules, search rules, rw c.with_low_byte-value.ensures (gathering_next _ _ c.loop-byte.invariant.2 c.in-Some.ensures.steps))

pub returns : goal.returns
returns g c = gathering_done c.loop-byte.invariant.2 c.in-None.ensures.steps.0
