-- `tag_utils::tag_mask_table32` meets its contract: the mask of each of the four widths.
use Rattle.std.proofs.Common.{rules}
use Prim.Native.Nat.{ℕ, ◌-◌, ◌^◌}
use Rattle.packed.proofs.Fours.{four_map}
use Rattle.tag_utils.proofs.tag_mask_table32.Goals as goal

pub tag_mask32-requires : goal.tag_mask32-requires
tag_mask32-requires c = c.requires 0

pub tag_mask32-requires-2 : goal.tag_mask32-requires-2
tag_mask32-requires-2 c = c.requires 1

pub tag_mask32-requires-3 : goal.tag_mask32-requires-3
tag_mask32-requires-3 c = c.requires 2

pub tag_mask32-requires-4 : goal.tag_mask32-requires-4
tag_mask32-requires-4 c = c.requires 3

pub returns : goal.returns
returns c =
    four_map (λ (w : ℕ). 256 ^ w - 1) c.args.tag_len
    c.tag_mask32.result
    c.tag_mask32-2.result
    c.tag_mask32-3.result
    c.tag_mask32-4.result
    (search rules)
    c.tag_mask32.ensures
    c.tag_mask32-2.ensures
    c.tag_mask32-3.ensures
    c.tag_mask32-4.ensures
