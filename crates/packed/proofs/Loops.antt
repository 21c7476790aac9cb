-- The invariants of the group functions' loops, over the width table t: how each starts, what a turn does, and what it has come to at the end.
-- An invariant says what is left to do. Assumes nothing.
use mathlib.Core.Path.{◌≡◌, refl, ap, ap₂, sym, ◌∙◌, subst}
use mathlib.Core.Bool.{Bool, true}
use mathlib.Core.List.{List, [], ◌∷◌, ◌++◌, map, append_assoc, append-nil}
use Prim.Native.Nat.{ℕ, zero, suc, ◌+◌, ◌-◌, ◌*◌, ◌/◌, ◌%◌, ◌^◌, ◌≤◌, ◌<◌, zero-le}
use native.Mathlib.Nat.{add-zero, zero-add, add_assoc, add-suc, suc-add, mul-suc, zero-lt-suc, zero-mod, mod-add-mod}
use native.Mathlib.Numerals.{add-one}
use native.Mathlib.Omega.{arith}
use lib.Dec.{T, leb, leb→le}
use lib.ListN.{length, take, drop, get_or, set, length-append, length-set, get_or-map, drop_of_length-le}
use borrow.Rule.Slice.PartMut.{put_mid}
use lib.Seq.{sets, sets-eq, length-sets, drop-cons, drop-drop, take-suc-set, take_all}
use Rattle.packed.specs.Format.{widths, total, le_value, numbers, le_bytes, shortest, short_width, tag_of, bytes_of, wrapping_sum}
use Rattle.packed.specs.Group.{Shortest, Decodes}
use Rattle.packed.proofs.Bytes.{Below, le_bytes-length}
use Rattle.packed.proofs.Numbers.{total-append}
use Rattle.packed.proofs.Fours.{four_of, four_is}
use Rattle.packed.proofs.Table.{both, both_left, both_right}
use Rattle.packed.proofs.Widths.{top, widths_next, widths_done, rest_next, shortest-field}

-- ---- widths that a table keeps to

-- no width of the table is above w: the test computes
abbrev pub all_le : ℕ → List ℕ → Bool
all_le w [] = true
all_le w (x ∷ xs) = both (leb x w) (all_le w xs)

pub at_most : (w : ℕ) (t : List ℕ) → T (all_le w t) → (f : ℕ) → get_or t f 0 ≤ w
at_most w [] h f = zero-le
at_most w (x ∷ xs) h zero = leb→le x w (both_left (leb x w) (all_le w xs) h)
at_most w (x ∷ xs) h (suc f) = at_most w xs (both_right (leb x w) (all_le w xs) h) f

-- what the lent tables hold: ls the widths, ms their masks
pub lent-width : (w : ℕ) (t ls : List ℕ) (f : ℕ) → T (all_le w t) → ls ≡ t → get_or ls f 0 ≤ w
lent-width w t ls f h e = rw e (at_most w t h f)

pub lent_mask : (t ls ms : List ℕ) (f : ℕ) → ls ≡ t → ms ≡ map (λ (w : ℕ). 256 ^ w - 1) t → get_or ms f 0 ≡ 256 ^ get_or ls f 0 - 1
lent_mask t ls ms f el em = rw (el, em) (get_or-map (λ (w : ℕ). 256 ^ w - 1) t f 0)

-- ---- stores one behind the other

pub sets-append : (l : List ℕ) (i : ℕ) (xs ys : List ℕ) → sets l i (xs ++ ys) ≡ sets (sets l i xs) (i + length xs) ys
sets-append l i [] ys = ap (λ (k : ℕ). sets l k ys) (sym (add-zero i))
sets-append l i (x ∷ xs) ys =
    sets-append (set l i x) (suc i) xs ys
    ∙ ap (λ (k : ℕ). sets (sets (set l i x) (suc i) xs) k ys) (suc-add i (length xs) ∙ sym (add-suc i (length xs)))

-- ---- `store`: the bytes of one number into a slice as long

pub record Storing (len value i rest : ℕ) (out : List ℕ) : Type 0 where
  pub turn : i ≤ len
  pub long : length out ≡ len
  pub left : sets out i (le_bytes (len - i) rest) ≡ le_bytes len value

pub storing_start : (len value : ℕ) (out : List ℕ) → length out ≡ len → Storing len value 0 value out
storing_start len value out long =
    let own : List ℕ = le_bytes len value in
    let behind : drop (0 + length own) out ≡ [] = drop_of_length-le out (omega (arith, long, le_bytes-length len value)) in
    let all : len - 0 ≡ len = omega arith in
    record {
      turn = zero-le;
      long = long;
      left = ap (λ (n : ℕ). sets out 0 (le_bytes n value)) all ∙ sets-eq own out 0 (omega (arith, long, le_bytes-length len value)) ∙ ap (λ (xs : List ℕ). own ++ xs) behind ∙ append-nil own;
    }

pub storing_next : {len value i rest : ℕ} {out : List ℕ} → Storing len value i rest out → i < len
    → Storing len value (i + 1) (rest / 256) (set out i (rest % 256))
storing_next {len} {value} {i} {rest} {out} s h =
    let e : len - i ≡ suc (len - (i + 1)) = omega (arith, s.turn) in
    record {
      turn = omega arith;
      long = length-set out i (rest % 256) ∙ s.long;
      left = ap (λ (k : ℕ). sets (set out i (rest % 256)) k (le_bytes (len - (i + 1)) (rest / 256))) (add-one i)
          ∙ sym (ap (λ (n : ℕ). sets out i (le_bytes n rest)) e) ∙ s.left;
    }

-- that slice in its place again
pub storing_done : {len value i rest : ℕ} {out : List ℕ} → Storing len value i rest out → len ≤ i → (before : List ℕ) (at k : ℕ) → k ≡ len
    → at + len ≤ length before → put_mid at k before out ≡ sets before at (le_bytes len value)
storing_done {len} {value} {i} {rest} {out} s h before at k ek room =
    let own : List ℕ = le_bytes len value in
    let none : 0 ≡ len - i = omega arith in
    let all : out ≡ own = ap (λ (n : ℕ). sets out i (le_bytes n rest)) none ∙ s.left in
    let behind : drop k (drop at before) ≡ drop (at + length own) before =
    drop-drop k at before ∙ ap (λ (n : ℕ). drop (at + n) before) (ek ∙ sym (le_bytes-length len value)) in
    ap₂ (λ (xs ys : List ℕ). take at before ++ (xs ++ ys)) all behind ∙ sym (append_assoc (take at before) own (drop (at + length own) before))
    ∙ sym (sets-eq own before at (omega (arith, room, le_bytes-length len value)))

-- ---- `decode`: four numbers, one after the other

pub record Decoding (t input : List ℕ) (at tag w i rest read : ℕ) (buf : List ℕ) : Type 0 where
  pub turn : i ≤ 4
  pub rest_is : rest ≡ tag / 4 ^ i
  pub room : read ≤ w * i
  pub four : length buf ≡ 4
  pub read_left : read + total (drop i (widths t tag)) ≡ total (widths t tag)
  pub left : take i buf ++ numbers (drop i (widths t tag)) (drop (at + read) input) ≡ numbers (widths t tag) (drop at input)

next : {t input : List ℕ} {at tag w i rest read : ℕ} {buf : List ℕ} (x : ℕ) → Decoding t input at tag w i rest read buf
    → i < 4 → T (all_le w t) → x ≡ le_value (take (get_or t (rest % 4) 0) (drop (at + read) input))
    → Decoding t input at tag w (i + 1) (rest / 4) (read + get_or t (rest % 4) 0) (set buf i x)
next {t} {input} {at} {tag} {w} {i} {rest} {read} {buf} x d h le ex =
    let ws : List ℕ = widths t tag in
    let len : ℕ = get_or t (rest % 4) 0 in
    let f : rest % 4 ≡ tag / 4 ^ i % 4 = ap (λ (n : ℕ). n % 4) d.rest_is in
    let cut : drop i ws ≡ len ∷ drop (suc i) ws =
    widths_next t tag i h ∙ ap (λ (n : ℕ). get_or t n 0 ∷ drop (suc i) ws) (sym f) in
    let more : drop len (drop (at + read) input) ≡ drop (at + (read + len)) input =
    drop-drop len (at + read) input ∙ ap (λ (n : ℕ). drop n input) (add_assoc at read len) in
    let step : w * (i + 1) ≡ w * i + w = ap (λ (n : ℕ). w * n) (add-one i) ∙ mul-suc w i in
    let read-cut : read + (len + total (drop (suc i) ws)) ≡ total ws = ap (λ (l : List ℕ). read + total l) (sym cut) ∙ d.read_left in
    let left_cut : take i buf ++ (x ∷ numbers (drop (suc i) ws) (drop (at + (read + len)) input)) ≡ numbers ws (drop at input) =
    ap₂ (λ (y : ℕ) (l : List ℕ). take i buf ++ (y ∷ numbers (drop (suc i) ws) l)) ex (sym more)
    ∙ ap (λ (l : List ℕ). take i buf ++ numbers l (drop (at + read) input)) (sym cut) ∙ d.left in
    record {
      turn = omega arith;
      rest_is = ap (λ (n : ℕ). n / 4) d.rest_is ∙ rest_next tag i ∙ ap (λ (n : ℕ). tag / 4 ^ n) (sym (add-one i));
      room = omega (arith, d.room, at_most w t le (rest % 4), step);
      four = length-set buf i x ∙ d.four;
      read_left = rw add-one (add_assoc read len (total (drop (suc i) ws)) ∙ read-cut);
      left = rw (add-one, take-suc-set buf i x (omega (arith, d.four)), append_assoc (take i buf)) left_cut;
    }

-- one number more, its width from the lent table ls
pub decoding_next : {t input : List ℕ} {at tag w i rest read : ℕ} {buf : List ℕ} (x : ℕ) → Decoding t input at tag w i rest read buf
    → i < 4 → T (all_le w t) → (ls : List ℕ) → ls ≡ t → x ≡ le_value (take (get_or ls (rest % 4) 0) (drop (at + read) input))
    → Decoding t input at tag w (i + 1) (rest / 4) (read + get_or ls (rest % 4) 0) (set buf i x)
decoding_next {t} {input} {at} {tag} {w} {i} {rest} {read} {buf} x d h le ls el =
    subst (λ (l : List ℕ). x ≡ le_value (take (get_or l (rest % 4) 0) (drop (at + read) input))
    → Decoding t input at tag w (i + 1) (rest / 4) (read + get_or l (rest % 4) 0) (set buf i x)) (sym el)
    (next x d h le)

pub decoding_done : {t input : List ℕ} {at tag w i rest read : ℕ} {buf : List ℕ} → Decoding t input at tag w i rest read buf → 4 ≤ i
    → Decodes t input at tag read buf
decoding_done {t} {input} {at} {tag} {w} {i} {rest} {read} {buf} d h =
    let e : i ≡ 4 = omega (arith, d.turn) in
    let none : drop i (widths t tag) ≡ [] = ap (λ (n : ℕ). drop n (widths t tag)) e ∙ widths_done t tag in
    record {
      read = sym (add-zero read) ∙ ap (λ (l : List ℕ). read + total l) (sym none) ∙ d.read_left;
      group =
          sym (append-nil buf) ∙ ap (λ (l : List ℕ). l ++ []) (sym (take_all i buf (omega (arith, d.four))))
          ∙ ap (λ (l : List ℕ). take i buf ++ numbers l (drop (at + read) input)) (sym none) ∙ d.left;
    }

-- ---- `encode`: four numbers, one after the other

-- the tag once the fields that are left have come in, each at the top
abbrev pub tag_end : ℕ → List ℕ → ℕ
tag_end tag [] = tag
tag_end tag (f ∷ fs) = tag_end (tag / 4 + 64 * f) fs

tag_of_fields : (a b c d : ℕ) → a < 4 → b < 4 → c < 4 → d < 4 → tag_end 0 (a ∷ b ∷ c ∷ d ∷ []) ≡ a + 4 * (b + 4 * (c + 4 * (d + 4 * 0)))
tag_of_fields a b c d ha hb hc hd =
    let one : (64 * a) / 4 ≡ 16 * a = omega arith in
    let two : (16 * a + 64 * b) / 4 ≡ 4 * a + 16 * b = omega arith in
    let three : (4 * a + 16 * b + 64 * c) / 4 ≡ a + 4 * b + 16 * c = omega arith in
    rw (zero-add, one, two, three) (omega arith)

pub record Encoding (t group before : List ℕ) (at w i tag written : ℕ) (out : List ℕ) : Type 0 where
  pub turn : i ≤ 4
  pub byte : tag < 256
  pub room : written ≤ w * i
  pub same : length out ≡ length before
  pub tag_left : tag_end tag (map (shortest t) (drop i group)) ≡ tag_of t group
  pub written_left : written + length (bytes_of t (drop i group)) ≡ length (bytes_of t group)
  pub left : sets out (at + written) (bytes_of t (drop i group)) ≡ sets before at (bytes_of t group)

pub encoding_start : (t group before : List ℕ) (at w : ℕ) → length t ≡ 4 → length group ≡ 4 → Below (top t) group
    → Encoding t group before at w 0 0 0 before
encoding_start t group before at w four g h =
    let f : (i : ℕ) → shortest t (get_or group i 0) < 4 = λ i. shortest-field t four (get_or group i 0) (h i) in
    let e : group ≡ four_of group = four_is group g in
    record {
      turn = zero-le;
      byte = zero-lt-suc 255;
      room = zero-le;
      same = refl;
      tag_left = ap (λ (l : List ℕ). tag_end 0 (map (shortest t) l)) e
          ∙ tag_of_fields (shortest t (get_or group 0 0)) (shortest t (get_or group 1 0)) (shortest t (get_or group 2 0)) (shortest t (get_or group 3 0)) (f 0) (f 1) (f 2) (f 3)
          ∙ ap (tag_of t) (sym e);
      written_left = zero-add (length (bytes_of t group));
      left = rw add-zero;
    }

pub encoding_next : {t group before : List ℕ} {at w i tag written : ℕ} {out : List ℕ} (f len : ℕ) (out' : List ℕ)
    → Encoding t group before at w i tag written out → i < 4 → length group ≡ 4
    → Shortest t w (get_or group i 0) f len → out' ≡ sets out (at + written) (le_bytes len (get_or group i 0))
    → Encoding t group before at w (i + 1) (tag / 4 + 64 * f) (written + len) out'
encoding_next {t} {group} {before} {at} {w} {i} {tag} {written} {out} f len out' c h g v-is eo =
    let v : ℕ = get_or group i 0 in
    let later : List ℕ = drop (suc i) group in
    let cut : drop i group ≡ v ∷ later = drop-cons group i 0 (omega (arith, g)) in
    let own : List ℕ = le_bytes len v in
    let own_is : own ≡ le_bytes (short_width t v) v = ap (λ (n : ℕ). le_bytes n v) v-is.len in
    let step : w * (i + 1) ≡ w * i + w = ap (λ (n : ℕ). w * n) (add-one i) ∙ mul-suc w i in
    let bytes : bytes_of t (drop i group) ≡ own ++ bytes_of t later =
    ap (bytes_of t) cut ∙ ap (λ (l : List ℕ). l ++ bytes_of t later) (sym own_is) in
    let count : written + len + length (bytes_of t later) ≡ written + length (bytes_of t (drop i group)) =
    add_assoc written len (length (bytes_of t later))
    ∙ ap (λ (n : ℕ). written + (n + length (bytes_of t later))) (sym (le_bytes-length len v))
    ∙ ap (λ (n : ℕ). written + n) (sym (length-append own (bytes_of t later)) ∙ ap length (sym bytes)) in
    let place : at + (written + len) ≡ at + written + length own =
    sym (add_assoc at written len) ∙ ap (λ (n : ℕ). at + written + n) (sym (le_bytes-length len v)) in
    record {
      turn = omega arith;
      byte = omega (arith, c.byte, v-is.field);
      room = omega (arith, c.room, step, v-is.width);
      same = ap length eo ∙ length-sets out (at + written) own ∙ c.same;
      tag_left = rw add-one (ap (λ (n : ℕ). tag_end (tag / 4 + 64 * n) (map (shortest t) later)) v-is.tag
          ∙ ap (λ (l : List ℕ). tag_end tag (map (shortest t) l)) (sym cut) ∙ c.tag_left);
      written_left = rw add-one (count ∙ c.written_left);
      left = rw add-one (ap₂ (λ (o : List ℕ) (k : ℕ). sets o k (bytes_of t later)) eo place
          ∙ sym (sets-append out (at + written) own (bytes_of t later))
          ∙ ap (sets out (at + written)) (sym bytes) ∙ c.left);
    }

-- ---- `sum`: one number more behind those that are added up, modulo m

pub sum_start : (m : ℕ) → 0 ≡ wrapping_sum m []
unfolding wrapping_sum
sum_start m = sym (zero-mod m)

pub sum_next : (m : ℕ) (vs : List ℕ) (s v : ℕ) → s ≡ wrapping_sum m vs → (s + v) % m ≡ wrapping_sum m (vs ++ (v ∷ []))
unfolding wrapping_sum
sum_next m vs s v e =
    ap (λ (n : ℕ). (n + v) % m) e ∙ mod-add-mod (total vs) m v
    ∙ ap (λ (n : ℕ). n % m) (ap (λ (n : ℕ). total vs + n) (sym (add-zero v)) ∙ sym (total-append vs (v ∷ [])))
