-- `numbers` meets its contract: each number is read at its place.
use Rattle.std.proofs.Common.{◌≡◌, ℕ, ◌^◌, ◌<◌, List, get_or, ◌∙◌, rules}
use native.Mathlib.Omega.{arith}
use Rattle.packed.specs.Format.{widths}
use Rattle.packed.proofs.Ends.{Table}
use Rattle.packed.proofs.Loops.{at_most}
use Rattle.tag_utils.specs.Tables.{masks}
use Rattle.elem.proofs.Elems.{number_at, widths_fit}
use Rattle.places.specs.Places.{place_of}
use Rattle.places.proofs.Decodes.{Placed, placed, decodes}
use Rattle.fast_decode.proofs.numbers.Goals as goal

-- what each of the four reads asks for
entry : {t : List ℕ} {w tag x : ℕ} {ms : List ℕ} → Table t → get_or t 3 0 ≡ w → x < 2 ^ 32 → (x ≡ place_of (widths t tag)) × (ms ≡ masks (widths t tag))
    → Placed t w tag x ms
entry {t = t} {w = w} {tag = tag} {x = x} {ms = ms} is widest fits e = placed t w tag x ms (at_most w t (widths_fit t w is widest)) fits e.0 e.1

pub number-one-requires-clause-mask : goal.number-one-requires-clause-mask
number-one-requires-clause-mask g c κs within =
    let laws = g.met.D.CodingDescriptor in
    let p = entry laws.is_table laws.widest c.ranges.place.fits c.requires.entries in
    (p.first_width, number_at g.D.Elem.Elem.number c.args.mask 0 _ (search rules) ∙ p.first_mask)

pub number-two-requires-clause-in_bounds : goal.number-two-requires-clause-in_bounds
number-two-requires-clause-in_bounds g c κs within =
    let laws = g.met.D.CodingDescriptor in
    let p = entry laws.is_table laws.widest c.ranges.place.fits c.requires.entries in
    omega (arith, c.requires.in_bounds, p.first_width)

pub number-two-requires-clause-mask : goal.number-two-requires-clause-mask
number-two-requires-clause-mask g c κs within =
    let laws = g.met.D.CodingDescriptor in
    let p = entry laws.is_table laws.widest c.ranges.place.fits c.requires.entries in
    (p.second_width, number_at g.D.Elem.Elem.number c.args.mask 1 _ (search rules) ∙ p.second_mask)

pub number-three-requires-clause-in_bounds : goal.number-three-requires-clause-in_bounds
number-three-requires-clause-in_bounds g c κs within =
    let laws = g.met.D.CodingDescriptor in
    let p = entry laws.is_table laws.widest c.ranges.place.fits c.requires.entries in
    omega (arith, c.requires.in_bounds, p.second_after, p.first_width, p.second_width)

pub number-three-requires-clause-mask : goal.number-three-requires-clause-mask
number-three-requires-clause-mask g c κs within =
    let laws = g.met.D.CodingDescriptor in
    let p = entry laws.is_table laws.widest c.ranges.place.fits c.requires.entries in
    (p.third_width, number_at g.D.Elem.Elem.number c.args.mask 2 _ (search rules) ∙ p.third_mask)

pub number-four-requires-clause-in_bounds : goal.number-four-requires-clause-in_bounds
number-four-requires-clause-in_bounds g c κs within =
    let laws = g.met.D.CodingDescriptor in
    let p = entry laws.is_table laws.widest c.ranges.place.fits c.requires.entries in
    omega (arith, c.requires.in_bounds, p.second_after, p.third_after, p.first_width, p.second_width, p.third_width)

pub number-four-requires-clause-mask : goal.number-four-requires-clause-mask
number-four-requires-clause-mask g c κs within =
    let laws = g.met.D.CodingDescriptor in
    let p = entry laws.is_table laws.widest c.ranges.place.fits c.requires.entries in
    (p.fourth_width, number_at g.D.Elem.Elem.number c.args.mask 3 _ (search rules) ∙ p.fourth_mask)

pub returns : goal.returns
returns g c =
    let laws = g.met.D.CodingDescriptor in
    let p = entry laws.is_table laws.widest c.ranges.place.fits c.requires.entries in
    decodes _ _ _ _ _ _ _ _ _ p.parts c.number-one.ensures c.number-two.ensures c.number-three.ensures c.number-four.ensures
