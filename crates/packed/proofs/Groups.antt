-- What is certain of one group, over the width table t (of four widths, the widest w) and the modulus m. Assumes nothing.
use mathlib.Core.Path.{◌≡◌, ap, sym, ◌∙◌, subst}
use mathlib.Core.List.{List, ◌++◌, map}
use Prim.Native.Nat.{ℕ, ◌+◌, ◌-◌, ◌*◌, ◌%◌, ◌≤◌, ◌<◌}
use native.Mathlib.Nat.{le_of_eq, le_trans}
use lib.Dec.{T}
use lib.ListN.{length, take}
use Rattle.packed.specs.Format.{widths, total, numbers, short_width, tag_of, bytes_of, steps, walked, wrapping_sum}
use Rattle.packed.proofs.Bytes.{Below}
use Rattle.packed.proofs.Deltas.{last_of, walked-steps, steps_sum}
use Rattle.packed.proofs.Fours.{four_is}
use Rattle.packed.proofs.Loops.{all_le, at_most}
use Rattle.packed.proofs.Numbers.{numbers_same}
use Rattle.packed.proofs.Widths.{top, widths_of_tag, widths_most, bytes_length, bytes_numbers}

module _ (t : List ℕ) (four : length t ≡ 4) (group : List ℕ) (held : length group ≡ 4) (fits : Below (top t) group) where
  -- the tag has the shortest widths
  pub group_widths : widths t (tag_of t group) ≡ map (short_width t) group
  group_widths =
      subst (λ (g : List ℕ). Below (top t) g → widths t (tag_of t g) ≡ map (short_width t) g) (sym (four_is group held))
      (widths_of_tag t four _ _ _ _) fits

  -- Decoding a group's encoding gives the group, with any bytes behind.
  pub decode_of_encode : (more : List ℕ) → numbers (widths t (tag_of t group)) (bytes_of t group ++ more) ≡ group
  decode_of_encode more =
      ap (λ (ws : List ℕ). numbers ws (bytes_of t group ++ more)) group_widths ∙ bytes_numbers t four group more fits

  -- Written equals the sum of the shortest widths,
  pub written_is_shortest : length (bytes_of t group) ≡ total (map (short_width t) group)
  written_is_shortest = bytes_length t four group

  -- and is at most four of the widest: 16 or 32.
  pub written_at_most : (w : ℕ) → T (all_le w t) → length (bytes_of t group) ≤ 4 * w
  written_at_most w le =
      le_trans (le_of_eq (written_is_shortest ∙ ap total (sym group_widths))) (widths_most w (tag_of t group) t (at_most w t le))

-- What is read depends on the group's own bytes alone.
pub read_own_bytes : (t s s' : List ℕ) (tag : ℕ) → take (total (widths t tag)) s ≡ take (total (widths t tag)) s'
    → numbers (widths t tag) s ≡ numbers (widths t tag) s'
read_own_bytes t s s' tag e = numbers_same (widths t tag) s s' e

module _ (m start : ℕ) (values : List ℕ) (small : start < m) (fits : Below m values) where
  -- Adding back the steps gives the values, whatever the start.
  pub steps-added_back : walked m start (steps m start values) ≡ values
  steps-added_back = walked-steps m start values small fits

  -- The sum of the steps is the last value minus the start, modulo m.
  pub steps_sum_up : wrapping_sum m (steps m start values) ≡ (last_of start values + (m - start)) % m
  steps_sum_up = steps_sum m start values small fits
