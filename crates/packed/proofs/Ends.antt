-- Laws of the stages' ends: each group of the first two stages has a whole widest group's bytes, and the tail has less than that copied.
-- Assumes nothing.
use mathlib.Core.Path.{◌≡◌, refl, ap, ap₂, sym, ◌∙◌, subst}
use mathlib.Core.Bool.{Bool, true, false}
use mathlib.Core.List.{List, [], ◌∷◌}
use Prim.Native.Nat.{ℕ, zero, suc, ◌+◌, ◌-◌, ◌*◌, ◌/◌, ◌%◌, ◌^◌, ◌≤◌, ◌<◌, zero-le, suc-le-suc}
use native.Mathlib.Nat.{add-zero, zero-add, add_assoc, add-suc, suc-add, sub-zero, mul-suc, zero-lt-suc, le_refl, mod-lt, not-suc-le-zero, le_of_suc-le-suc}
use native.Mathlib.Numerals.{add-one}
use native.Mathlib.Omega.{arith}
use lib.Dec.{T, leb, leb→le, lit<}
use lib.ListN.{length, take, drop, get_or, length-drop, drop_of_length-le}
use lib.Seq.{drop-drop, drop-cons, slice, slice_empty, slice-cons, length-slice, take-add, take-length}
use borrow.Author.Tests.{leb-true, leb-false, le-leb, lt-leb}
use Rattle.packed.specs.Format.{pick, field, widths, total, column_widths, data_len}
use Rattle.packed.specs.Stages.{widest_group, slack, eights_from, eights, singles, staged, where_any, tail_takes, tail_copied}
use Rattle.packed.specs.Column.{Windows, Ends, Measured, EndsAt, Tail}
use Rattle.packed.proofs.Columns.{slice_join, slice_one}
use Rattle.packed.proofs.Loops.{all_le, at_most}
use Rattle.packed.proofs.Numbers.{total-append, data_len-append, drop_of_take}
use Rattle.packed.proofs.Table.{both, both_left, both_right}
use Rattle.packed.proofs.Widths.{widths_most}

-- no width of the table is below w: the test computes
abbrev pub all_ge : ℕ → List ℕ → Bool
all_ge w [] = true
all_ge w (x ∷ xs) = both (leb w x) (all_ge w xs)

pub at_least : (w : ℕ) (t : List ℕ) → T (all_ge w t) → (f : ℕ) → f < length t → w ≤ get_or t f 0
at_least w [] h f k = absurd (not-suc-le-zero k)
at_least w (x ∷ xs) h zero k = leb→le w x (both_left (leb w x) (all_ge w xs) h)
at_least w (x ∷ xs) h (suc f) k = at_least w xs (both_right (leb w x) (all_ge w xs) h) f (le_of_suc-le-suc k)

-- what the stages ask of a table: four widths, of which none is below the first or above the last
pub record Table (t : List ℕ) : Type 0 where
  pub four : length t ≡ 4
  pub first : T (all_ge (get_or t 0 0) t)
  pub last : T (all_le (get_or t 3 0) t)

field-small : (tag i : ℕ) → field tag i < 4
unfolding field
field-small tag i = mod-lt (tag / 4 ^ i) (lit< tt)

module _ (t : List ℕ) (is : Table t) where
  pub group_least : (tag : ℕ) → 4 * get_or t 0 0 ≤ total (widths t tag)
  unfolding widths
  group_least tag =
      let w : (i : ℕ) → get_or t 0 0 ≤ get_or t (field tag i) 0 =
      λ i. at_least (get_or t 0 0) t is.first (field tag i) (omega (arith, is.four, field-small tag i)) in
      omega (arith, w 0, w 1, w 2, w 3)

  pub group_most : (tag : ℕ) → total (widths t tag) ≤ widest_group t
  group_most tag = widths_most (get_or t 3 0) tag t (at_most (get_or t 3 0) t is.last)

  slack_is : 4 * get_or t 0 0 + slack t ≡ widest_group t
  slack_is = omega (arith, at_most (get_or t 3 0) t is.last 0)

  pub cons_len : (tag : ℕ) (tags : List ℕ) → data_len t (tag ∷ tags) ≡ total (widths t tag) + data_len t tags
  unfolding data_len
  cons_len tag tags = total-append (widths t tag) (column_widths t tags)

  nil_len : data_len t [] ≡ 0
  unfolding data_len
  nil_len = refl

  -- no column is longer than so many widest groups
  pub len_most : (tags : List ℕ) → data_len t tags ≤ widest_group t * length tags
  len_most [] = rw nil_len zero-le
  len_most (tag ∷ tags) = omega (arith, cons_len tag tags, group_most tag, len_most tags, mul-suc (widest_group t) (length tags))

  pub slice_most : (a b : ℕ) (tags : List ℕ) → b ≤ length tags → data_len t (slice a b tags) ≤ widest_group t * (b - a)
  slice_most a b tags h = subst (λ (n : ℕ). data_len t (slice a b tags) ≤ widest_group t * n) (length-slice a b tags h) (len_most (slice a b tags))

  -- the first part is no longer than the whole, with the group behind it
  pub part_len : (a b : ℕ) (tags : List ℕ) → a < b → b ≤ length tags → data_len t (take a tags) + total (widths t (get_or tags a 0)) ≤ data_len t (take b tags)
  part_len a b tags h k =
      let e : data_len t (take b tags) ≡ data_len t (take a tags) + data_len t (slice a b tags) =
      ap (data_len t) (slice_join 0 a b tags zero-le (omega arith) (omega arith)) ∙ data_len-append t (take a tags) (slice a b tags) in
      let f : data_len t (slice a b tags) ≡ total (widths t (get_or tags a 0)) + data_len t (slice (suc a) b tags) =
      ap (data_len t) (slice-cons a b tags 0 h k) ∙ cons_len (get_or tags a 0) (slice (suc a) b tags) in
      omega arith

  -- ---- eight tags at once

  record Eights (n : ℕ) (tags : List ℕ) (left e : ℕ) : Type 0 where
    by-eight : e % 8 ≡ 0
    most : e ≤ 8 * n
    fit : 0 < e → data_len t (take e tags) + slack t ≤ left

  eights_fit : (tags : List ℕ) (left e : ℕ) → data_len t (take 8 tags) + slack t ≤ left
      → (0 < e → data_len t (take e (drop 8 tags)) + slack t ≤ left - data_len t (take 8 tags)) → data_len t (take (8 + e) tags) + slack t ≤ left
  eights_fit tags left zero h f = h
  eights_fit tags left (suc e) h f =
      let e8 : data_len t (take (8 + suc e) tags) ≡ data_len t (take 8 tags) + data_len t (take (suc e) (drop 8 tags)) =
      ap (data_len t) (take-add 8 (suc e) tags) ∙ data_len-append t (take 8 tags) (take (suc e) (drop 8 tags)) in
      omega (arith, f (zero-lt-suc e))

  eights_step : (n : ℕ) (tags : List ℕ) (left e : ℕ) (b : Bool) → leb (data_len t (take 8 tags) + slack t) left ≡ b
      → Eights n (drop 8 tags) (left - data_len t (take 8 tags)) e → Eights (suc n) tags left (pick b (8 + e) 0)
  eights_step n tags left e false eb x = record { by-eight = refl; most = zero-le; fit = λ h. absurd (not-suc-le-zero h) }
  eights_step n tags left e true eb x = record {
    by-eight = omega (arith, x.by-eight);
    most = omega (arith, x.most);
    fit = λ pos. eights_fit tags left e (leb-true (data_len t (take 8 tags) + slack t) left eb) x.fit;
  }

  eights_from_are : (n : ℕ) (tags : List ℕ) (left : ℕ) → Eights n tags left (eights_from t n tags left)
  eights_from_are zero tags left = record { by-eight = refl; most = zero-le; fit = λ h. absurd (not-suc-le-zero h) }
  eights_from_are (suc n) tags left =
      eights_step n tags left (eights_from t n (drop 8 tags) (left - data_len t (take 8 tags)))
      (leb (data_len t (take 8 tags) + slack t) left) refl (eights_from_are n (drop 8 tags) (left - data_len t (take 8 tags)))

  eights_are : (tags : List ℕ) (left : ℕ) → Eights (length tags / 8) tags left (eights t tags left)
  unfolding eights
  eights_are tags left = eights_from_are (length tags / 8) tags left

  pub eights_by_eight : (tags : List ℕ) (left : ℕ) → eights t tags left % 8 ≡ 0
  eights_by_eight tags left = (eights_are tags left).by-eight

  pub eights_most : (tags : List ℕ) (left : ℕ) → eights t tags left ≤ length tags
  eights_most tags left = omega (arith, (eights_are tags left).most)

  pub eights_left : (tags : List ℕ) (left : ℕ) → data_len t (take (eights t tags left) tags) ≤ left
  eights_left tags left = go (eights t tags left) (eights_are tags left).fit
    where
      go : (e : ℕ) → (0 < e → data_len t (take e tags) + slack t ≤ left) → data_len t (take e tags) ≤ left
      go zero f = rw nil_len zero-le
      go (suc e) f = omega (arith, f (zero-lt-suc e))

  -- each of those groups has a whole widest group's bytes
  pub eights_window : (tags : List ℕ) (left k : ℕ) → k < eights t tags left → data_len t (take k tags) + widest_group t ≤ left
  eights_window tags left k h =
      omega (
        arith,
        (eights_are tags left).fit (omega arith),
        part_len k (eights t tags left) tags h (eights_most tags left),
        group_least (get_or tags k 0),
        slack_is,
      )

  -- ---- single tags

  record Singles (tags : List ℕ) (left s : ℕ) : Type 0 where
    most : s ≤ length tags
    room : data_len t (take s tags) ≤ left
    window : (k : ℕ) → k < s → data_len t (take k tags) + widest_group t ≤ left
    few : s < length tags → left - data_len t (take s tags) < widest_group t

  singles_window : (tag : ℕ) (tags : List ℕ) (left s k : ℕ) → widest_group t ≤ left
      → ((j : ℕ) → j < s → data_len t (take j tags) + widest_group t ≤ left - total (widths t tag)) → k < suc s
      → data_len t (take k (tag ∷ tags)) + widest_group t ≤ left
  singles_window tag tags left s zero h f hk = rw (nil_len, zero-add (widest_group t)) h
  singles_window tag tags left s (suc k) h f hk =
      omega (arith, cons_len tag (take k tags), f k (le_of_suc-le-suc hk), group_most tag)

  singles_step : (tag : ℕ) (tags : List ℕ) (left s : ℕ) (b : Bool) → leb (widest_group t) left ≡ b → Singles tags (left - total (widths t tag)) s
      → Singles (tag ∷ tags) left (pick b (suc s) 0)
  singles_step tag tags left s false e x = record {
    most = zero-le;
    room = rw nil_len zero-le;
    window = λ k h. absurd (not-suc-le-zero h);
    few = λ h. omega (arith, leb-false (widest_group t) left e);
  }
  singles_step tag tags left s true e x =
      let h : widest_group t ≤ left = leb-true (widest_group t) left e in
      record {
        most = suc-le-suc x.most;
        room = omega (arith, cons_len tag (take s tags), x.room, group_most tag);
        window = λ k hk. singles_window tag tags left s k h x.window hk;
        few = λ hk. omega (arith, cons_len tag (take s tags), x.few (le_of_suc-le-suc hk));
      }

  singles_are : (tags : List ℕ) (left : ℕ) → Singles tags left (singles t tags left)
  singles_are [] left = record {
    most = zero-le;
    room = rw nil_len zero-le;
    window = λ k h. absurd (not-suc-le-zero h);
    few = λ h. absurd (not-suc-le-zero h);
  }
  singles_are (tag ∷ tags) left =
      singles_step tag tags left (singles t tags (left - total (widths t tag))) (leb (widest_group t) left) refl
      (singles_are tags (left - total (widths t tag)))

  -- ---- all three stages

  module _ (tags bytes : List ℕ) {e er g gr taken copied : ℕ} (ends : Ends t tags bytes e er g gr taken copied) where
    second : Singles (drop e tags) (length bytes - er) (singles t (drop e tags) (length bytes - er))
    second = singles_are (drop e tags) (length bytes - er)

    groups : g ≡ e + singles t (drop e tags) (length bytes - er)
    unfolding staged
    groups = ends.groups_are ∙ rw (← ends.eights_are, ← ends.eights_read) refl

    eights-in : e ≤ length tags
    eights-in = subst (λ (n : ℕ). n ≤ length tags) (sym ends.eights_are) (eights_most tags (length bytes))

    eights-room : er ≤ length bytes
    eights-room =
        subst (λ (n : ℕ). n ≤ length bytes) (sym (ends.eights_read ∙ ap (λ (n : ℕ). data_len t (take n tags)) ends.eights_are))
        (eights_left tags (length bytes))

    pub eights-whole : e % 8 ≡ 0
    eights-whole = ap (λ (n : ℕ). n % 8) ends.eights_are ∙ eights_by_eight tags (length bytes)

    pub eights-before : e ≤ g
    eights-before = omega (arith, groups)

    pub groups-in : g ≤ length tags
    groups-in = omega (arith, groups, second.most, length-drop e tags, eights-in)

    -- the part of both stages behind the first
    behind : (k : ℕ) → e ≤ k → slice e k tags ≡ take (k - e) (drop e tags)
    behind k h =
        let f : k ≡ e + (k - e) = omega arith in
        ap (λ (n : ℕ). drop e (take n tags)) f ∙ drop_of_take e (k - e) tags

    behind-len : (k : ℕ) → e ≤ k → k ≤ length tags → data_len t (take k tags) ≡ er + data_len t (take (k - e) (drop e tags))
    behind-len k h n =
        ap (data_len t) (slice_join 0 e k tags zero-le h (omega arith)) ∙ data_len-append t (take e tags) (slice e k tags)
        ∙ ap₂ (λ (x : ℕ) (l : List ℕ). x + data_len t l) (sym ends.eights_read) (behind k h)

    pub read-room : gr ≤ length bytes
    read-room =
        let s : ℕ = singles t (drop e tags) (length bytes - er) in
        let f : g - e ≡ s = omega (arith, groups) in
        omega (
          arith,
          ends.read,
          behind-len g eights-before groups-in,
          ap (λ (n : ℕ). data_len t (take n (drop e tags))) f,
          second.room,
          eights-room,
        )

    pub first-stage : Windows t tags bytes 0 e 0
    first-stage = record {
      forward = zero-le;
      tags_there = eights-in;
      there = λ k h hk. rw (zero-add (data_len t (take k tags)))
          (eights_window tags (length bytes) k (subst (λ (n : ℕ). k < n) ends.eights_are hk));
    }

    pub second-stage : Windows t tags bytes e g er
    second-stage = record {
      forward = eights-before;
      tags_there = groups-in;
      there = λ k h hk.
          omega (arith, second.window (k - e) (omega (arith, groups)), ap (data_len t) (behind k h), eights-room);
    }

    -- what the tail takes, and that all is read in the end
    pub tail_takes_lem : taken ≡ data_len t (slice g (length tags) tags)
    unfolding tail_takes
    tail_takes_lem =
        ends.taken ∙ ap (λ (n : ℕ). data_len t (drop n tags)) (sym ends.groups_are)
        ∙ ap (λ (l : List ℕ). data_len t (drop g l)) (sym (take-length tags))

    pub all_read : gr + taken ≡ data_len t tags
    all_read =
        ap₂ (λ (x y : ℕ). x + y) ends.read tail_takes_lem ∙ sym (data_len-append t (take g tags) (slice g (length tags) tags))
        ∙ ap (data_len t) (sym (slice_join 0 g (length tags) tags zero-le groups-in groups-in) ∙ take-length tags)

    -- where tags are left, all that is left of the data is copied, which is less than a whole widest group
    copy_step : (rest : List ℕ) (n : ℕ) → 0 < length rest → where_any rest n ≡ n
    copy_step [] n h = absurd (not-suc-le-zero h)
    copy_step (tag ∷ rest) n h = refl

    pub tail_copied_lem : g < length tags → copied ≡ length bytes - gr
    unfolding tail_copied
    tail_copied_lem h =
        ends.copied ∙ ap (λ (n : ℕ). where_any (drop n tags) (length bytes - data_len t (take n tags))) (sym ends.groups_are)
        ∙ ap (λ (n : ℕ). where_any (drop g tags) (length bytes - n)) (sym ends.read)
        ∙ copy_step (drop g tags) (length bytes - gr) (omega (arith, length-drop g tags))

    pub tail-short : g < length tags → copied < widest_group t
    tail-short h =
        let s : ℕ = singles t (drop e tags) (length bytes - er) in
        let f : g - e ≡ s = omega (arith, groups) in
        omega (
          arith,
          tail_copied_lem h,
          ends.read,
          behind-len g eights-before groups-in,
          ap (λ (n : ℕ). data_len t (take n (drop e tags))) f,
          second.few (omega (arith, groups, length-drop e tags)),
        )

    -- where the tail starts
    pub tail : g < length tags → taken ≤ copied → Tail t tags bytes g gr
    tail h fit = record {
      inside = groups-in;
      there = omega (arith, tail_takes_lem, tail_copied_lem h, read-room);
      short = omega (arith, tail_copied_lem h, tail-short h);
    }

    -- the same from where the stages before have ended in the data
    first_read : (x : ℕ) → x ≡ 0 + data_len t (slice 0 e tags) → x ≡ er
    first_read x ex = ex ∙ zero-add (data_len t (slice 0 e tags)) ∙ sym ends.eights_read

    pub second-start : (x : ℕ) → x ≡ 0 + data_len t (slice 0 e tags) → Windows t tags bytes e g x
    second-start x ex = subst (Windows t tags bytes e g) (sym (first_read x ex)) second-stage

    pub tail-start : (x y : ℕ) → x ≡ 0 + data_len t (slice 0 e tags) → y ≡ x + data_len t (slice e g tags) → g < length tags → taken ≤ copied
        → Tail t tags bytes g y
    tail-start x y ex ey h fit =
        let f : data_len t (take g tags) ≡ data_len t (take e tags) + data_len t (slice e g tags) =
        ap (data_len t) (slice_join 0 e g tags zero-le eights-before eights-in) ∙ data_len-append t (take e tags) (slice e g tags) in
        subst (Tail t tags bytes g) (omega (arith, first_read x ex, ends.read, ends.eights_read)) (tail h fit)

    pub all-groups : length tags ≤ g → g ≡ length tags
    all-groups h = omega (arith, groups-in)

  -- the tail's groups have a whole widest group's bytes in the scratch
  pub tail_windows : (tags bytes scratch : List ℕ) (g at : ℕ) → Tail t tags bytes g at → length scratch ≡ 64 → widest_group t ≤ 32
      → Windows t tags scratch g (length tags) 0
  tail_windows tags bytes scratch g at x hs wide = record {
    forward = x.inside;
    tags_there = le_refl (length tags);
    there = λ k hk kn.
        let f : data_len t (slice g (length tags) tags) ≡ data_len t (slice g k tags) + data_len t (slice k (length tags) tags) =
        ap (data_len t) (slice_join g k (length tags) tags hk (omega arith) (omega arith)) ∙ data_len-append t (slice g k tags) (slice k (length tags) tags) in
        omega (arith, x.there, x.short);
  }

  -- ---- lengths of runs of tags

  pub measured_none : (tags : List ℕ) (a : ℕ) → a ≤ length tags → Measured t tags a (a + 0) 0
  measured_none tags a h = rw (add-zero a) (record {
    forward = le_refl a;
    inside = h;
    len = sym (ap (data_len t) (slice_empty a tags) ∙ nil_len);
    most = zero-le;
  })

  pub measured_here : (tags : List ℕ) (a : ℕ) → a ≤ length tags → Measured t tags a a 0
  measured_here tags a h = subst (λ (n : ℕ). Measured t tags a n 0) (add-zero a) (measured_none tags a h)

  pub measured_join : {tags : List ℕ} {a b c x y : ℕ} → Measured t tags a b x → Measured t tags b c y → Measured t tags a c (x + y)
  measured_join {tags} {a} {b} {c} {x} {y} p q =
      let e : data_len t (slice a c tags) ≡ data_len t (slice a b tags) + data_len t (slice b c tags) =
      ap (data_len t) (slice_join a b c tags p.forward q.forward p.inside) ∙ data_len-append t (slice a b tags) (slice b c tags) in
      let sum : x + y ≡ data_len t (slice a c tags) = omega (arith, p.len, q.len) in
      record {
        forward = omega (arith, p.forward, q.forward);
        inside = q.inside;
        len = sum;
        most = subst (λ (n : ℕ). n ≤ widest_group t * (c - a)) (sym sum) (slice_most a c tags q.inside);
      }

  pub measured_one : (tags : List ℕ) (i x : ℕ) → i < length tags → x ≡ total (widths t (get_or tags i 0)) → Measured t tags i (i + 1) x
  measured_one tags i x h e =
      let is : x ≡ data_len t (slice i (i + 1) tags) =
      e ∙ sym (add-zero _) ∙ ap (λ (n : ℕ). total (widths t (get_or tags i 0)) + n) (sym nil_len)
      ∙ sym (cons_len (get_or tags i 0) []) ∙ ap (data_len t) (sym (slice_one i tags h)) in
      record {
        forward = omega arith;
        inside = omega arith;
        len = is;
        most = subst (λ (n : ℕ). n ≤ widest_group t * (i + 1 - i)) (sym is) (slice_most i (i + 1) tags (omega arith));
      }

  pub measured_step : {tags : List ℕ} (a k : ℕ) {x : ℕ} (y : ℕ) → Measured t tags a (a + k) x → a + k < length tags
      → y ≡ total (widths t (get_or tags (a + k) 0)) → Measured t tags a (a + (k + 1)) (x + y)
  measured_step {tags} a k {x} y p h e =
      subst (λ (n : ℕ). Measured t tags a n (x + y)) (add_assoc a k 1) (measured_join p (measured_one tags (a + k) y h e))

  -- ---- the loops that find the ends

  -- eight tags more: what is left to do
  eights_taken : (tags : List ℕ) (left i read len8 : ℕ) → i + 8 ≤ length tags → len8 ≡ data_len t (slice i (i + 8) tags)
      → len8 + slack t ≤ left - read
      → i + eights_from t ((length tags - i) / 8) (drop i tags) (left - read)
      ≡ i + 8 + eights_from t ((length tags - (i + 8)) / 8) (drop (i + 8) tags) (left - (read + len8))
  eights_taken tags left i read len8 h el fit =
      let n : ℕ = (length tags - (i + 8)) / 8 in
      let en : (length tags - i) / 8 ≡ suc n = omega arith in
      let e8 : len8 ≡ data_len t (take 8 (drop i tags)) = el ∙ ap (data_len t) (drop_of_take i 8 tags) in
      let test : leb (data_len t (take 8 (drop i tags)) + slack t) (left - read) ≡ true =
      le-leb _ _ (subst (λ (x : ℕ). x + slack t ≤ left - read) e8 fit) in
      let el' : left - read - data_len t (take 8 (drop i tags)) ≡ left - (read + len8) = omega (arith, e8) in
      ap (λ (k : ℕ). i + eights_from t k (drop i tags) (left - read)) en
      ∙ ap (λ (b : Bool). i + pick b (8 + eights_from t n (drop 8 (drop i tags)) (left - read - data_len t (take 8 (drop i tags)))) 0) test
      ∙ sym (add_assoc i 8 _)
      ∙ ap₂ (λ (l : List ℕ) (k : ℕ). i + 8 + eights_from t n l k) (drop-drop 8 i tags) el'

  eights_stop : (tags : List ℕ) (left i read len8 : ℕ) → i + 8 ≤ length tags → len8 ≡ data_len t (slice i (i + 8) tags)
      → left - read < len8 + slack t → i + eights_from t ((length tags - i) / 8) (drop i tags) (left - read) ≡ i
  eights_stop tags left i read len8 h el short =
      let n : ℕ = (length tags - (i + 8)) / 8 in
      let en : (length tags - i) / 8 ≡ suc n = omega arith in
      let e8 : len8 ≡ data_len t (take 8 (drop i tags)) = el ∙ ap (data_len t) (drop_of_take i 8 tags) in
      let test : leb (data_len t (take 8 (drop i tags)) + slack t) (left - read) ≡ false =
      lt-leb _ _ (subst (λ (x : ℕ). left - read < x + slack t) e8 short) in
      ap (λ (k : ℕ). i + eights_from t k (drop i tags) (left - read)) en
      ∙ ap (λ (b : Bool). i + pick b (8 + eights_from t n (drop 8 (drop i tags)) (left - read - data_len t (take 8 (drop i tags)))) 0) test
      ∙ add-zero i

  eights_out : (tags : List ℕ) (left i : ℕ) → length tags - i < 8 → i + eights_from t ((length tags - i) / 8) (drop i tags) left ≡ i
  eights_out tags left i h =
      let en : (length tags - i) / 8 ≡ 0 = omega arith in
      ap (λ (k : ℕ). i + eights_from t k (drop i tags) left) en ∙ add-zero i

  eights_from_lem : (tags : List ℕ) (left : ℕ) → 0 + eights_from t ((length tags - 0) / 8) (drop 0 tags) (left - 0) ≡ eights t tags left
  unfolding eights
  eights_from_lem tags left = rw (zero-add, sub-zero (length tags), sub-zero left) refl

  -- one tag more
  singles_taken : (tags : List ℕ) (left i read len : ℕ) → i < length tags → len ≡ total (widths t (get_or tags i 0)) → widest_group t ≤ left - read
      → i + singles t (drop i tags) (left - read) ≡ i + 1 + singles t (drop (i + 1) tags) (left - (read + len))
  singles_taken tags left i read len h el fit =
      let tag : ℕ = get_or tags i 0 in
      let el' : left - read - total (widths t tag) ≡ left - (read + len) = omega (arith, el) in
      ap (λ (l : List ℕ). i + singles t l (left - read)) (drop-cons tags i 0 h)
      ∙ ap (λ (b : Bool). i + pick b (suc (singles t (drop (suc i) tags) (left - read - total (widths t tag)))) 0) (le-leb (widest_group t) (left - read) fit)
      ∙ ap (λ (k : ℕ). i + suc (singles t (drop (suc i) tags) k)) el'
      ∙ add-suc i _ ∙ sym (suc-add i _)
      ∙ ap (λ (k : ℕ). k + singles t (drop k tags) (left - (read + len))) (sym (add-one i))

  singles_stop : (tags : List ℕ) (left i : ℕ) → i < length tags → left < widest_group t → i + singles t (drop i tags) left ≡ i
  singles_stop tags left i h short =
      ap (λ (l : List ℕ). i + singles t l left) (drop-cons tags i 0 h)
      ∙ ap (λ (b : Bool). i + pick b (suc (singles t (drop (suc i) tags) (left - total (widths t (get_or tags i 0))))) 0) (lt-leb (widest_group t) left short)
      ∙ add-zero i

  singles_out : (tags : List ℕ) (left i : ℕ) → length tags ≤ i → i + singles t (drop i tags) left ≡ i
  singles_out tags left i h = ap (λ (l : List ℕ). i + singles t l left) (drop_of_length-le tags h) ∙ add-zero i

  -- the first stage's loop: what is left to do
  pub record AtEights (tags bytes : List ℕ) (i read : ℕ) : Type 0 where
    pub measured : Measured t tags 0 i read
    pub room : read ≤ length bytes
    pub left : i + eights_from t ((length tags - i) / 8) (drop i tags) (length bytes - read) ≡ eights t tags (length bytes)

  pub at_eights_start : (tags bytes : List ℕ) → AtEights tags bytes 0 0
  at_eights_start tags bytes = record {
    measured = measured_none tags 0 zero-le;
    room = zero-le;
    left = eights_from_lem tags (length bytes);
  }

  pub at_eights_next : {tags bytes : List ℕ} {i read : ℕ} (len8 : ℕ) → AtEights tags bytes i read → Measured t tags i (i + 8) len8
      → len8 + slack t ≤ length bytes - read → AtEights tags bytes (i + 8) (read + len8)
  at_eights_next {tags} {bytes} {i} {read} len8 a m fit = record {
    measured = measured_join a.measured m;
    room = omega (arith, a.room);
    left = sym (eights_taken tags (length bytes) i read len8 m.inside m.len fit) ∙ a.left;
  }

  ended : {tags bytes : List ℕ} {i read groups : ℕ} → Measured t tags 0 i read → read ≤ length bytes → i ≡ groups → EndsAt t tags bytes groups i read
  ended {tags} {bytes} {i} {read} {groups} m room e = record { groups_are = e; inside = m.inside; read = m.len; room = room }

  pub at_eights_stop : {tags bytes : List ℕ} {i read : ℕ} (len8 : ℕ) → AtEights tags bytes i read → Measured t tags i (i + 8) len8
      → length bytes - read < len8 + slack t → EndsAt t tags bytes (eights t tags (length bytes)) i read
  at_eights_stop {tags} {bytes} {i} {read} len8 a m short =
      ended a.measured a.room (sym (eights_stop tags (length bytes) i read len8 m.inside m.len short) ∙ a.left)

  -- the second stage's loop, from where the first ended
  pub record AtSingles (tags bytes : List ℕ) (from start i read : ℕ) : Type 0 where
    pub measured : Measured t tags 0 i read
    pub room : read ≤ length bytes
    pub left : i + singles t (drop i tags) (length bytes - read) ≡ from + singles t (drop from tags) (length bytes - start)

  pub at_singles_start : {tags bytes : List ℕ} {groups from start : ℕ} → EndsAt t tags bytes groups from start → AtSingles tags bytes from start from start
  at_singles_start {tags} {bytes} {groups} {from} {start} e = record {
    measured = record {
      forward = zero-le;
      inside = e.inside;
      len = e.read;
      most = subst (λ (n : ℕ). n ≤ widest_group t * (from - 0)) (sym e.read) (slice_most 0 from tags e.inside);
    };
    room = e.room;
    left = refl;
  }

  pub at_singles_next : {tags bytes : List ℕ} {from start i read : ℕ} (len : ℕ) → AtSingles tags bytes from start i read → i < length tags
      → len ≡ total (widths t (get_or tags i 0)) → widest_group t ≤ length bytes - read → AtSingles tags bytes from start (i + 1) (read + len)
  at_singles_next {tags} {bytes} {from} {start} {i} {read} len a h e fit = record {
    measured = measured_join a.measured (measured_one tags i len h e);
    room = omega (arith, a.room, e, group_most (get_or tags i 0));
    left = sym (singles_taken tags (length bytes) i read len h e fit) ∙ a.left;
  }

  pub at_singles_stop : {tags bytes : List ℕ} {from start i read : ℕ} → AtSingles tags bytes from start i read → i < length tags
      → length bytes - read < widest_group t → EndsAt t tags bytes (from + singles t (drop from tags) (length bytes - start)) i read
  at_singles_stop {tags} {bytes} {from} {start} {i} {read} a h short =
      ended a.measured a.room (sym (singles_stop tags (length bytes - read) i h short) ∙ a.left)

  copied_is : (rest : List ℕ) (n copied : ℕ) → (0 < length rest → copied ≡ n) → (length rest ≡ 0 → copied ≡ 0) → copied ≡ where_any rest n
  copied_is [] n copied some none = none refl
  copied_is (tag ∷ rest) n copied some none = some (zero-lt-suc (length rest))

  -- the ends put together: rest is what the tail takes, and what is left of the data is copied where tags are left
  pub ends_all : (tags bytes : List ℕ) (e er g gr taken copied : ℕ) → EndsAt t tags bytes (eights t tags (length bytes)) e er
      → EndsAt t tags bytes (e + singles t (drop e tags) (length bytes - er)) g gr → Measured t tags g (length tags) taken
      → (g < length tags → copied ≡ length bytes - gr) → (length tags ≤ g → copied ≡ 0) → Ends t tags bytes e er g gr taken copied
  unfolding staged tail_takes tail_copied
  ends_all tags bytes e er g gr taken copied x y z some none =
      let both-stages : g ≡ staged t tags (length bytes) = y.groups_are ∙ rw (x.read, x.groups_are) refl in
      record {
        eights_are = x.groups_are;
        eights_read = x.read;
        groups_are = both-stages;
        read = y.read;
        taken = z.len ∙ ap (λ (l : List ℕ). data_len t (drop g l)) (take-length tags) ∙ ap (λ (n : ℕ). data_len t (drop n tags)) both-stages;
        copied =
            copied_is (drop g tags) (length bytes - gr) copied
            (λ h. some (omega (arith, length-drop g tags)))
            (λ h. none (omega (arith, length-drop g tags)))
            ∙ ap (λ (n : ℕ). where_any (drop g tags) (length bytes - n)) y.read
            ∙ ap (λ (n : ℕ). where_any (drop n tags) (length bytes - data_len t (take n tags))) both-stages;
      }

  -- what the second stage asks of the first
  pub ends_here : {tags bytes : List ℕ} {groups e er : ℕ} → EndsAt t tags bytes groups e er → EndsAt t tags bytes e e er
  ends_here x = record { groups_are = refl; inside = x.inside; read = x.read; room = x.room }
