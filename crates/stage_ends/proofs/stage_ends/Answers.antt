-- `stage_ends` meets its contract: the ends put together.
use Rattle.std.proofs.Common.{arith}
use Rattle.packed.proofs.Ends.{ends_all}
use Rattle.stage_ends.proofs.stage_ends.Goals as goal
use Rattle.stage_ends.proofs.stage_ends.Goals.{then-groups-tags, else-groups-tags}

pub returns : goal.returns
returns g c =
    let a = c.args in
    let first = c.eights_end-first in
    let second = c.singles_end-second in
    ends_all g.D.CodingDescriptor.table g.met.D.CodingDescriptor.is_table a.tags.now a.«data».now first.result.groups first.result.read second.result.groups second.result.read
    c.data_len_from.result c.if-groups-tags.copied first.ensures second.ensures c.data_len_from.ensures
    (λ h. elim c.if-groups-tags.branch [ then-groups-tags w ↦ w.copied-is | else-groups-tags w ↦ absurd (omega (arith, w.if-groups-tags.false)) ])
    (λ h. elim c.if-groups-tags.branch [ then-groups-tags w ↦ absurd (omega (arith, w.if-groups-tags.true)) | else-groups-tags w ↦ w.copied-is ])
