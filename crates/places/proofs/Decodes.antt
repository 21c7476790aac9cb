-- A group decoded by a table of places: where its numbers begin, the masks of their widths, and the whole. Over the width table t, whose
-- widths are at most w. Assumes nothing.
use mathlib.Core.Path.{◌≡◌, refl, ap, ap₂, sym, ◌∙◌}
use mathlib.Core.List.{List, [], ◌∷◌}
use Prim.Native.Nat.{ℕ, ◌+◌, ◌-◌, ◌*◌, ◌/◌, ◌%◌, ◌^◌, ◌≤◌, ◌<◌}
use native.Mathlib.Omega.{arith}
use lib.ListN.{take, drop, get_or}
use lib.Seq.{drop-drop}
use Rattle.packed.specs.Format.{field, widths, le_value}
use Rattle.packed.specs.Group.{Decodes}
use Rattle.tag_utils.specs.Tables.{masks}
use Rattle.places.specs.Places.{place_of}

-- the i-th width of a tag
abbrev pub width : List ℕ → ℕ → ℕ → ℕ
width t tag i = get_or t (field tag i) 0

-- An entry taken apart: four places. Since it has 32 bits, where its group ends fits its high byte.
pub record Parts (t : List ℕ) (tag x : ℕ) : Type 0 where
  pub second : x % 256 ≡ width t tag 0
  pub third : x / 256 % 256 ≡ width t tag 0 + width t tag 1
  pub fourth : x / 65536 % 256 ≡ width t tag 0 + width t tag 1 + width t tag 2
  pub end : x / 16777216 ≡ width t tag 0 + width t tag 1 + width t tag 2 + width t tag 3

apart : (a b c d x : ℕ) → x < 2 ^ 32
    → x ≡ (a + 0) + 256 * (a + (b + 0)) + 65536 * (a + (b + (c + 0))) + 16777216 * (a + (b + (c + (d + 0))))
    → (x % 256 ≡ a) × (x / 256 % 256 ≡ a + b) × (x / 65536 % 256 ≡ a + b + c) × (x / 16777216 ≡ a + b + c + d)
apart a b c d x h e =
    let few : a + b + c + d < 256 = omega arith in
    let later : x / 256 ≡ (a + b) + 256 * (a + b + c) + 65536 * (a + b + c + d) = omega arith in
    let last : x / 65536 ≡ (a + b + c) + 256 * (a + b + c + d) = omega arith in
    (omega arith, rw later (omega arith), rw last (omega arith), omega arith)

parts : (t : List ℕ) (tag x : ℕ) → x < 2 ^ 32 → x ≡ place_of (widths t tag) → Parts t tag x
unfolding widths
parts t tag x fits e =
    let p = apart (width t tag 0) (width t tag 1) (width t tag 2) (width t tag 3) x fits e in
    record { second = p.0; third = p.1; fourth = p.2; end = p.3 }

-- A tag's entry and masks: what each of the four reads asks for.
pub record Placed (t : List ℕ) (w tag x : ℕ) (ms : List ℕ) : Type 0 where
  pub parts : Parts t tag x
  pub first_width : x % 256 ≤ w
  pub first_mask : get_or ms 0 0 ≡ 256 ^ (x % 256) - 1
  pub second_after : x % 256 ≤ x / 256 % 256
  pub second_width : x / 256 % 256 - x % 256 ≤ w
  pub second_mask : get_or ms 1 0 ≡ 256 ^ (x / 256 % 256 - x % 256) - 1
  pub third_after : x / 256 % 256 ≤ x / 65536 % 256
  pub third_width : x / 65536 % 256 - x / 256 % 256 ≤ w
  pub third_mask : get_or ms 2 0 ≡ 256 ^ (x / 65536 % 256 - x / 256 % 256) - 1
  pub fourth_after : x / 65536 % 256 ≤ x / 16777216
  pub fourth_width : x / 16777216 - x / 65536 % 256 ≤ w
  pub fourth_mask : get_or ms 3 0 ≡ 256 ^ (x / 16777216 - x / 65536 % 256) - 1

-- the i-th of the masks, where the i-th width is n
mask_of : (ms ws : List ℕ) (i n : ℕ) → ms ≡ masks ws → get_or (masks ws) i 0 ≡ 256 ^ get_or ws i 0 - 1 → get_or ws i 0 ≡ n → get_or ms i 0 ≡ 256 ^ n - 1
mask_of ms ws i n e at en = ap (λ (l : List ℕ). get_or l i 0) e ∙ at ∙ ap (λ (k : ℕ). 256 ^ k - 1) en

pub placed : (t : List ℕ) (w tag x : ℕ) (ms : List ℕ) → ((f : ℕ) → get_or t f 0 ≤ w) → x < 2 ^ 32 → x ≡ place_of (widths t tag) → ms ≡ masks (widths t tag)
    → Placed t w tag x ms
unfolding widths
placed t w tag x ms most fits ex em =
    let s = parts t tag x fits ex in
    let ws : List ℕ = widths t tag in
    let one : width t tag 0 ≤ w = most (field tag 0) in
    let two : width t tag 1 ≤ w = most (field tag 1) in
    let three : width t tag 2 ≤ w = most (field tag 2) in
    let four : width t tag 3 ≤ w = most (field tag 3) in
    record {
      parts = s;
      first_width = omega (arith, s.second);
      first_mask = mask_of ms ws 0 _ em refl (sym s.second);
      second_after = omega (arith, s.second, s.third);
      second_width = omega (arith, s.second, s.third);
      second_mask = mask_of ms ws 1 _ em refl (omega (arith, s.second, s.third));
      third_after = omega (arith, s.third, s.fourth);
      third_width = omega (arith, s.third, s.fourth);
      third_mask = mask_of ms ws 2 _ em refl (omega (arith, s.third, s.fourth));
      fourth_after = omega (arith, s.fourth, s.end);
      fourth_width = omega (arith, s.fourth, s.end);
      fourth_mask = mask_of ms ws 3 _ em refl (omega (arith, s.fourth, s.end));
    }

-- A number read at a place is the one behind what was dropped.
read_at : (s : List ℕ) (v n at w k : ℕ) → v ≡ le_value (take n (drop at s)) → n ≡ w → at ≡ k → v ≡ le_value (take w (drop k s))
read_at s v n at w k e en ek = e ∙ ap₂ (λ (i j : ℕ). le_value (take i (drop j s))) en ek

-- Four numbers, each read at its place with its width, are the group's.
pub decodes : (t s : List ℕ) (at tag x a b c d : ℕ) → Parts t tag x
    → a ≡ le_value (take (x % 256) (drop at s))
    → b ≡ le_value (take (x / 256 % 256 - x % 256) (drop (at + x % 256) s))
    → c ≡ le_value (take (x / 65536 % 256 - x / 256 % 256) (drop (at + x / 256 % 256) s))
    → d ≡ le_value (take (x / 16777216 - x / 65536 % 256) (drop (at + x / 65536 % 256) s))
    → Decodes t s at tag (x / 16777216) (a ∷ b ∷ c ∷ d ∷ [])
unfolding widths
decodes t s at tag x a b c d p ea eb ec ed =
    let f : ℕ = width t tag 0 in
    let g : ℕ = width t tag 1 in
    let h : ℕ = width t tag 2 in
    let i : ℕ = width t tag 3 in
    record {
      read = omega (arith, p.end);
      group = rw (drop-drop f at s, drop-drop g (at + f) s, drop-drop h (at + f + g) s) (rw (
        read_at s a (x % 256) at f at ea p.second refl,
        read_at s b (x / 256 % 256 - x % 256) (at + x % 256) g (at + f) eb (omega (arith, p.second, p.third)) (omega (arith, p.second)),
        read_at s c (x / 65536 % 256 - x / 256 % 256) (at + x / 256 % 256) h (at + f + g) ec (omega (arith, p.third, p.fourth)) (omega (arith, p.third)),
        read_at s d (x / 16777216 - x / 65536 % 256) (at + x / 65536 % 256) i (at + f + g + h) ed (omega (arith, p.fourth, p.end)) (omega (arith, p.fourth)),
      ) refl);
    }
