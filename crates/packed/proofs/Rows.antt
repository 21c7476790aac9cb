-- Laws of the refusal table: what each row's test says, and which number the first row that applies gives. Assumes nothing.
use mathlib.Core.Path.{◌≡◌, refl, ap, sym, ◌∙◌}
use mathlib.Core.Bool.{Bool, true, false, not}
use mathlib.Core.List.{List, [], ◌∷◌, ◌++◌}
use Prim.Native.Nat.{ℕ, suc, ◌*◌, ◌/◌, ◌%◌, ◌≤◌}
use native.Mathlib.Omega.{arith}
use lib.Dec.{eqb}
use lib.ListN.{length}
use borrow.Author.Tests.{le-ltb, eq-eqb, ltb-false, eqb-true, not-false}
use Rattle.packed.specs.Format.{pick, data_len}
use Rattle.packed.specs.Stages.{widest_group, tail_takes, tail_copied}
use Rattle.packed.specs.Refusals.{Lent, Row, not_fours, too_many_groups, few_tags, little_room, other_tags, missing_data, tail_overrun, number, group_limit, applies, first_of}

module _ (t : List ℕ) (l : Lent) where
  -- ---- the first row

  pub miss : (r : Row) (rs : List Row) (n : ℕ) → applies t l r ≡ false → n ≡ first_of t l rs → n ≡ first_of t l (r ∷ rs)
  miss r rs n e h = h ∙ sym (ap (λ (b : Bool). pick b (number r) (first_of t l rs)) e)

  -- a number is above 0, so where 0 is given the row does not apply, and none behind it
  passed_step : (r : Row) (b : Bool) (n : ℕ) → pick b (number r) n ≡ 0 → (b ≡ false) × (n ≡ 0)
  passed_step not_fours true n e = absurd (omega arith)
  passed_step too_many_groups true n e = absurd (omega arith)
  passed_step few_tags true n e = absurd (omega arith)
  passed_step little_room true n e = absurd (omega arith)
  passed_step other_tags true n e = absurd (omega arith)
  passed_step missing_data true n e = absurd (omega arith)
  passed_step tail_overrun true n e = absurd (omega arith)
  passed_step r false n e = (refl, e)

  pub passed : (r : Row) (rs : List Row) → first_of t l (r ∷ rs) ≡ 0 → (applies t l r ≡ false) × (first_of t l rs ≡ 0)
  passed r rs e = passed_step r (applies t l r) (first_of t l rs) e

  -- rows in two parts: a number of the first part stands, and 0 hands on to the second
  pub first_passed : (rs qs : List Row) → first_of t l rs ≡ 0 → first_of t l (rs ++ qs) ≡ first_of t l qs
  first_passed [] qs e = refl
  first_passed (r ∷ rs) qs e =
      let p = passed r rs e in
      sym (miss r (rs ++ qs) (first_of t l qs) p.0 (sym (first_passed rs qs p.1)))

  stands_step : (r : Row) (b : Bool) (m m' n : ℕ) → pick b (number r) m ≡ suc n → (m ≡ suc n → m' ≡ suc n) → pick b (number r) m' ≡ suc n
  stands_step r true m m' n e h = e
  stands_step r false m m' n e h = h e

  pub first_stands : (rs qs : List Row) (n : ℕ) → first_of t l rs ≡ suc n → first_of t l (rs ++ qs) ≡ suc n
  first_stands [] qs n e = absurd (omega arith)
  first_stands (r ∷ rs) qs n e = stands_step r (applies t l r) (first_of t l rs) (first_of t l (rs ++ qs)) n e (first_stands rs qs n)

  -- ---- each row's test as a fact, both ways

  pub not_fours_no : l.values % 4 ≡ 0 → applies t l not_fours ≡ false
  not_fours_no h = ap not (eq-eqb (l.values % 4) 0 h)

  pub fours : applies t l not_fours ≡ false → l.values % 4 ≡ 0
  fours e = eqb-true (l.values % 4) 0 (not-false (eqb (l.values % 4) 0) e)

  pub too_many_no : l.groups ≤ group_limit → applies t l too_many_groups ≡ false
  too_many_no h = le-ltb group_limit l.groups h

  pub few_groups : applies t l too_many_groups ≡ false → l.groups ≤ group_limit
  few_groups e = ltb-false group_limit l.groups e

  pub enough_tags : applies t l few_tags ≡ false → l.values / 4 ≤ length l.tags
  enough_tags e = ltb-false (length l.tags) (l.values / 4) e

  pub enough_room : applies t l little_room ≡ false → widest_group t * (l.values / 4) ≤ l.bytes
  enough_room e = ltb-false l.bytes (widest_group t * (l.values / 4)) e

  pub other_tags_no : length l.tags ≡ l.values / 4 → applies t l other_tags ≡ false
  other_tags_no h = ap not (eq-eqb (length l.tags) (l.values / 4) h)

  pub matching_tags : applies t l other_tags ≡ false → length l.tags ≡ l.values / 4
  matching_tags e = eqb-true (length l.tags) (l.values / 4) (not-false (eqb (length l.tags) (l.values / 4)) e)

  pub missing_data_no : data_len t l.tags ≤ l.bytes → applies t l missing_data ≡ false
  missing_data_no h = le-ltb l.bytes (data_len t l.tags) h

  pub enough_data : applies t l missing_data ≡ false → data_len t l.tags ≤ l.bytes
  enough_data e = ltb-false l.bytes (data_len t l.tags) e

  pub tail_overrun_no : tail_takes t l.tags l.bytes ≤ tail_copied t l.tags l.bytes → applies t l tail_overrun ≡ false
  tail_overrun_no h = le-ltb (tail_copied t l.tags l.bytes) (tail_takes t l.tags l.bytes) h

  pub enough_copied : applies t l tail_overrun ≡ false → tail_takes t l.tags l.bytes ≤ tail_copied t l.tags l.bytes
  enough_copied e = ltb-false (tail_copied t l.tags l.bytes) (tail_takes t l.tags l.bytes) e
