-- `run_stages` meets its contract: three runs, one behind the other.
use Prim.Native.Nat.{zero-le}
use Rattle.std.proofs.Common.{arith, length}
use Rattle.packed.proofs.Ends.{first-stage, second-start, tail-start, eights-whole, eights-before, groups-in, all-groups}
use Rattle.packed.proofs.Runs.{made_join, made_room}
use Rattle.stages.proofs.run_stages.Goals as goal

pub eights-first-requires-clause-windows : goal.eights-first-requires-clause-windows
eights-first-requires-clause-windows g c κs within =
    let t = g.D.CodingDescriptor.table in
    let is = g.met.D.CodingDescriptor.is_table in
    (first-stage t is _ _ c.requires.ends.0, eights-whole t is _ _ c.requires.ends.0)

pub eights-first-requires-clause-room : goal.eights-first-requires-clause-room
eights-first-requires-clause-room g c κs within =
    let t = g.D.CodingDescriptor.table in
    let is = g.met.D.CodingDescriptor.is_table in
    g.met.S.Sink.laws.fits _ c.args.ends.eights (length c.args.tags.now)
    (omega (arith, groups-in t is _ _ c.requires.ends.0, eights-before t is _ _ c.requires.ends.0)) c.requires.room

pub singles-second-requires-clause-windows : goal.singles-second-requires-clause-windows
singles-second-requires-clause-windows g c κs within =
    let t = g.D.CodingDescriptor.table in
    let is = g.met.D.CodingDescriptor.is_table in
    second-start t is _ _ c.requires.ends.0 _ c.eights-first.ensures.read

pub singles-second-requires-clause-room : goal.singles-second-requires-clause-room
singles-second-requires-clause-room g c κs within =
    let t = g.D.CodingDescriptor.table in
    let is = g.met.D.CodingDescriptor.is_table in
    let s = g.S.Sink in
    let laws = g.met.S.Sink.laws in
    made_room t g.D.Elem.Elem.modulus s.Fits s.Took laws g.D.Elem.Elem.number _ _ _ c.eights-first.ensures
    (laws.fits _ c.args.ends.groups (length c.args.tags.now) (groups-in t is _ _ c.requires.ends.0) c.requires.room)

pub run_tail-requires-clause-tail : goal.run_tail-requires-clause-tail
run_tail-requires-clause-tail g c κs within =
    let t = g.D.CodingDescriptor.table in
    let is = g.met.D.CodingDescriptor.is_table in
    tail-start t is _ _ c.requires.ends.0 _ _ c.eights-first.ensures.read c.singles-second.ensures.read c.if-ends-tags.true c.requires.ends.1

pub run_tail-requires-clause-room : goal.run_tail-requires-clause-room
run_tail-requires-clause-room g c κs within =
    let t = g.D.CodingDescriptor.table in
    let m = g.D.Elem.Elem.modulus in
    let number = g.D.Elem.Elem.number in
    let s = g.S.Sink in
    let laws = g.met.S.Sink.laws in
    made_room t m s.Fits s.Took laws number _ _ _ c.singles-second.ensures
    (made_room t m s.Fits s.Took laws number _ _ _ c.eights-first.ensures c.requires.room)

pub returns-then-ends-tags : goal.returns-then-ends-tags
returns-then-ends-tags g c =
    let t = g.D.CodingDescriptor.table in
    let is = g.met.D.CodingDescriptor.is_table in
    let m = g.D.Elem.Elem.modulus in
    let s = g.S.Sink in
    let laws = g.met.S.Sink.laws in
    let inside = groups-in t is _ _ c.requires.ends.0 in
    let small = g.met.D.Elem.Elem.below c.args.start in
    made_join t m s.Fits s.Took laws zero-le inside inside small
    (made_join t m s.Fits s.Took laws zero-le (eights-before t is _ _ c.requires.ends.0) (first-stage t is _ _ c.requires.ends.0).tags_there small c.eights-first.ensures c.singles-second.ensures)
    c.run_tail.ensures

pub returns : goal.returns
returns g c =
    let t = g.D.CodingDescriptor.table in
    let is = g.met.D.CodingDescriptor.is_table in
    let s = g.S.Sink in
    rw (all-groups t is _ _ c.requires.ends.0 c.if-ends-tags.false) at
    (made_join t g.D.Elem.Elem.modulus s.Fits s.Took g.met.S.Sink.laws zero-le (eights-before t is _ _ c.requires.ends.0) (first-stage t is _ _ c.requires.ends.0).tags_there (g.met.D.Elem.Elem.below c.args.start) c.eights-first.ensures c.singles-second.ensures)
