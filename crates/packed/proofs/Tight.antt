-- Laws of the tightness check: a number from its own bytes, how far the run of shortest widths goes, and the invariants of its loops, over
-- the width table t. Assumes nothing.
use mathlib.Core.Path.{◌≡◌, refl, ap, ap₂, sym, ◌∙◌, subst}
use mathlib.Core.Bool.{Bool}
use mathlib.Core.List.{List, [], ◌∷◌, ◌++◌, append_assoc, append-nil}
use Prim.Native.Nat.{ℕ, suc, ◌+◌, ◌-◌, ◌*◌, ◌/◌, ◌%◌, ◌^◌, ◌≤◌, ◌<◌, zero-le}
use native.Mathlib.Nat.{add-zero, zero-add, add_assoc, mul_comm, add_comm, div-one}
use native.Mathlib.Numerals.{add-one}
use native.Mathlib.Omega.{arith}
use lib.ListN.{length, take, drop, get_or, drop_of_length-le, length-append, length-take}
use lib.Seq.{drop-cons, drop-drop, drop_at, take_all}
use borrow.Author.Tests.{eq-eqb, ne_eqb}
use Rattle.packed.specs.Format.{pick, widths, column_widths, total, data_len, le_value, short_width}
use Rattle.packed.specs.Group.{Shortest}
use Rattle.packed.specs.Calls.{tight_run, tight, loose, tightness_of}
use Rattle.packed.proofs.Bytes.{Below, below-drop, le_value-below}
use Rattle.packed.proofs.Widths.{widths_next, widths_done, rest_next}

-- ---- a number put together from its high byte down: left are the bytes that are left

pub record Gathering (bytes left : List ℕ) (value : ℕ) : Type 0 where
  pub behind : List ℕ
  pub whole : left ++ behind ≡ bytes
  pub value_is : value ≡ le_value behind

pub gathering_start : (bytes left : List ℕ) → left ≡ bytes → Gathering bytes left 0
gathering_start bytes left e = record {
  behind = [];
  whole = append-nil left ∙ e;
  value_is = refl;
}

pub gathering_next : {bytes left : List ℕ} {value : ℕ} (left' : List ℕ) (b : ℕ) → Gathering bytes left value → left ≡ left' ++ (b ∷ [])
    → Gathering bytes left' (value * 256 + b)
gathering_next {bytes} {left} {value} left' b g e = record {
  behind = b ∷ g.behind;
  whole = sym (append_assoc left' (b ∷ []) g.behind) ∙ ap (λ (l : List ℕ). l ++ g.behind) (sym e) ∙ g.whole;
  value_is = add_comm (value * 256) b ∙ ap (λ (n : ℕ). b + n) (mul_comm value 256) ∙ ap (λ (n : ℕ). b + 256 * n) g.value_is;
}

-- it fits as many bytes as a number has
gathering_fits : {bytes left : List ℕ} {value : ℕ} (w : ℕ) → Gathering bytes left value → Below 256 bytes → length bytes ≤ w → value < 256 ^ w
gathering_fits {bytes} {left} {value} w g b h =
    let own : drop (length left) bytes ≡ g.behind = ap (drop (length left)) (sym g.whole) ∙ drop_at left g.behind (length left) refl in
    let long : length left + length g.behind ≡ length bytes = sym (length-append left g.behind) ∙ ap length g.whole in
    let all : take w g.behind ≡ g.behind = take_all w g.behind (omega (arith, long)) in
    subst (λ (n : ℕ). n < 256 ^ w) (ap (λ (l : List ℕ). le_value (take w l)) own ∙ ap le_value all ∙ sym g.value_is)
    (le_value-below w (drop (length left) bytes) (below-drop 256 (length left) bytes b))

pub gathering_next_fits : {bytes left : List ℕ} {value : ℕ} (left' : List ℕ) (b w : ℕ) → Gathering bytes left value → left ≡ left' ++ (b ∷ [])
    → Below 256 bytes → length bytes ≤ w → value * 256 + b < 256 ^ w
gathering_next_fits left' b w g e below h = gathering_fits w (gathering_next left' b g e) below h

pub gathering_done : {bytes left : List ℕ} {value : ℕ} → Gathering bytes left value → length left ≡ 0 → value ≡ le_value bytes
gathering_done {bytes} {left} {value} g none =
    let all : g.behind ≡ bytes = sym (drop_at left g.behind 0 none) ∙ g.whole in
    g.value_is ∙ ap le_value all

-- a part from at to at + len: its number, and how long it is
pub part_is : (bytes : List ℕ) (at len : ℕ) {value : ℕ} → value ≡ le_value (take (at + len - at) (drop at bytes)) → value ≡ le_value (take len (drop at bytes))
part_is bytes at len e = let same : at + len - at ≡ len = omega arith in e ∙ ap (λ (n : ℕ). le_value (take n (drop at bytes))) same

pub part-fits : (bytes : List ℕ) (at len w : ℕ) → len ≤ w → length (take (at + len - at) (drop at bytes)) ≤ w
part-fits bytes at len w h = omega (arith, length-take (at + len - at) (drop at bytes), h)

module _ (t : List ℕ) where
  -- ---- the run, one number more or stopped

  run_on : (w : ℕ) (ws s : List ℕ) → w ≡ short_width t (le_value (take w s)) → tight_run t (w ∷ ws) s ≡ suc (tight_run t ws (drop w s))
  run_on w ws s e = ap (λ (b : Bool). pick b (suc (tight_run t ws (drop w s))) 0) (eq-eqb w (short_width t (le_value (take w s))) e)

  run_stops : (w : ℕ) (ws s : List ℕ) → (w ≡ short_width t (le_value (take w s)) → ⊥) → tight_run t (w ∷ ws) s ≡ 0
  run_stops w ws s n = ap (λ (b : Bool). pick b (suc (tight_run t ws (drop w s))) 0) (ne_eqb w (short_width t (le_value (take w s))) n)

  -- The first k numbers of all have their shortest widths; ws are the widths of those that are left, whose bytes start at `at`.
  pub record TightTo (all bytes : List ℕ) (k : ℕ) (ws : List ℕ) (at : ℕ) : Type 0 where
    pub run : tight_run t all bytes ≡ k + tight_run t ws (drop at bytes)
    pub room : at + total ws ≤ length bytes

  tight_start : (all bytes : List ℕ) → total all ≤ length bytes → TightTo all bytes 0 all 0
  tight_start all bytes h = record {
    run = sym (zero-add (tight_run t all bytes));
    room = omega arith;
  }

  tight_next : {all bytes ws : List ℕ} {k at : ℕ} (w : ℕ) (ws' : List ℕ) → TightTo all bytes k ws at → ws ≡ w ∷ ws'
      → w ≡ short_width t (le_value (take w (drop at bytes))) → TightTo all bytes (k + 1) ws' (at + w)
  tight_next {all} {bytes} {ws} {k} {at} w ws' r e short =
      let rest : List ℕ = drop at bytes in
      let n : ℕ = tight_run t ws' (drop w rest) in
      let one : k + suc n ≡ k + 1 + n = omega arith in
      record {
        run = r.run ∙ ap (λ (l : List ℕ). k + tight_run t l rest) e ∙ ap (λ (x : ℕ). k + x) (run_on w ws' rest short) ∙ one
            ∙ ap (λ (s : List ℕ). k + 1 + tight_run t ws' s) (drop-drop w at bytes);
        room = omega (arith, r.room, ap total e);
      }

  -- ---- the answer

  loose_at : (tags bytes : List ℕ) (i p : ℕ) → p < 4 → i < length tags → tight_run t (column_widths t tags) bytes ≡ 4 * i + p
      → tightness_of t tags bytes ≡ loose i p
  unfolding tightness_of
  loose_at tags bytes i p hp hi e =
      let run : ℕ = tight_run t (column_widths t tags) bytes in
      let group : run / 4 ≡ i = omega arith in
      let position : run % 4 ≡ p = omega arith in
      ap (λ (b : Bool). pick b tight (loose (run / 4) (run % 4))) (ne_eqb run (4 * length tags) (λ x. omega arith)) ∙ ap₂ loose group position

  all_tight : (tags bytes : List ℕ) → tight_run t (column_widths t tags) bytes ≡ 4 * length tags → tightness_of t tags bytes ≡ tight
  unfolding tightness_of
  all_tight tags bytes e =
      let run : ℕ = tight_run t (column_widths t tags) bytes in
      ap (λ (b : Bool). pick b tight (loose (run / 4) (run % 4))) (eq-eqb run (4 * length tags) e)

  -- ---- the loop over groups

  pub record AtGroup (tags bytes : List ℕ) (i at : ℕ) : Type 0 where
    pub inside : i ≤ length tags
    pub to : TightTo (column_widths t tags) bytes (4 * i) (column_widths t (drop i tags)) at

  pub at_group_start : (tags bytes : List ℕ) → data_len t tags ≤ length bytes → AtGroup tags bytes 0 0
  unfolding data_len
  at_group_start tags bytes h = record { inside = zero-le; to = tight_start (column_widths t tags) bytes h }

  pub at_group_done : {tags bytes : List ℕ} {i at : ℕ} → AtGroup tags bytes i at → length tags ≤ i → tightness_of t tags bytes ≡ tight
  at_group_done {tags} {bytes} {i} {at} g h =
      let none : column_widths t (drop i tags) ≡ [] = ap (column_widths t) (drop_of_length-le tags h) in
      all_tight tags bytes (g.to.run ∙ ap (λ (l : List ℕ). 4 * i + tight_run t l (drop at bytes)) none ∙ omega (arith, g.inside))

  -- ---- the loop over a group's four numbers

  pub record AtNumber (tags bytes : List ℕ) (i p rest at : ℕ) : Type 0 where
    pub inside : i < length tags
    pub turn : p ≤ 4
    pub rest_is : rest ≡ get_or tags i 0 / 4 ^ p
    pub to : TightTo (column_widths t tags) bytes (4 * i + p) (drop p (widths t (get_or tags i 0)) ++ column_widths t (drop (suc i) tags)) at

  pub at_number_start : {tags bytes : List ℕ} {i at : ℕ} → AtGroup tags bytes i at → i < length tags → AtNumber tags bytes i 0 (get_or tags i 0) at
  at_number_start {tags} {bytes} {i} {at} g h = record {
    inside = h;
    turn = zero-le;
    rest_is = sym (div-one (get_or tags i 0));
    to = subst (λ (l : List ℕ). TightTo (column_widths t tags) bytes (4 * i + 0) (column_widths t l) at) (drop-cons tags i 0 h)
        (subst (λ (k : ℕ). TightTo (column_widths t tags) bytes k (column_widths t (drop i tags)) at) (sym (add-zero (4 * i))) g.to);
  }

  -- the number at hand, its width from the lent table ls, and those behind it
  at_hand : {tags bytes : List ℕ} {i p rest at : ℕ} (ls : List ℕ) → AtNumber tags bytes i p rest at → p < 4 → ls ≡ t
      → drop p (widths t (get_or tags i 0)) ++ column_widths t (drop (suc i) tags)
      ≡ get_or ls (rest % 4) 0 ∷ (drop (suc p) (widths t (get_or tags i 0)) ++ column_widths t (drop (suc i) tags))
  at_hand {tags} {bytes} {i} {p} {rest} {at} ls a h el =
      let tag : ℕ = get_or tags i 0 in
      let width : get_or t (tag / 4 ^ p % 4) 0 ≡ get_or ls (rest % 4) 0 = ap₂ (λ (l : List ℕ) (n : ℕ). get_or l (n % 4) 0) (sym el) (sym a.rest_is) in
      ap (λ (l : List ℕ). l ++ column_widths t (drop (suc i) tags)) (widths_next t tag p h ∙ ap (λ (w : ℕ). w ∷ drop (suc p) (widths t tag)) width)

  -- its bytes are there
  pub at_number_there : {tags bytes : List ℕ} {i p rest at : ℕ} (ls : List ℕ) → AtNumber tags bytes i p rest at → p < 4 → ls ≡ t
      → at + get_or ls (rest % 4) 0 ≤ length bytes
  at_number_there {tags} {bytes} {i} {p} {rest} {at} ls a h el = omega (arith, a.to.room, ap total (at_hand ls a h el))

  -- it has its shortest width
  pub at_number_next : {tags bytes : List ℕ} {i p rest at : ℕ} (ls : List ℕ) (w value f len : ℕ) → AtNumber tags bytes i p rest at → p < 4 → ls ≡ t
      → value ≡ le_value (take (get_or ls (rest % 4) 0) (drop at bytes)) → Shortest t w value f len → get_or ls (rest % 4) 0 ≡ len
      → AtNumber tags bytes i (p + 1) (rest / 4) (at + get_or ls (rest % 4) 0)
  at_number_next {tags} {bytes} {i} {p} {rest} {at} ls w value f len a h el ev s e =
      let tag : ℕ = get_or tags i 0 in
      let later : List ℕ = column_widths t (drop (suc i) tags) in
      let on : TightTo (column_widths t tags) bytes (4 * i + p + 1) (drop (suc p) (widths t tag) ++ later) (at + get_or ls (rest % 4) 0) =
      tight_next (get_or ls (rest % 4) 0) (drop (suc p) (widths t tag) ++ later) a.to (at_hand ls a h el) (e ∙ s.len ∙ ap (short_width t) ev) in
      record {
        inside = a.inside;
        turn = omega arith;
        rest_is = ap (λ (n : ℕ). n / 4) a.rest_is ∙ rest_next tag p ∙ ap (λ (n : ℕ). tag / 4 ^ n) (sym (add-one p));
        to = subst (λ (n : ℕ). TightTo (column_widths t tags) bytes n (drop (p + 1) (widths t tag) ++ later) (at + get_or ls (rest % 4) 0)) (add_assoc (4 * i) p 1)
            (subst (λ (n : ℕ). TightTo (column_widths t tags) bytes (4 * i + p + 1) (drop n (widths t tag) ++ later) (at + get_or ls (rest % 4) 0)) (sym (add-one p)) on);
      }

  -- it has not: the check ends here
  pub at_number_loose : {tags bytes : List ℕ} {i p rest at : ℕ} (ls : List ℕ) (w value f len : ℕ) → AtNumber tags bytes i p rest at → p < 4 → ls ≡ t
      → value ≡ le_value (take (get_or ls (rest % 4) 0) (drop at bytes)) → Shortest t w value f len → (get_or ls (rest % 4) 0 ≡ len → ⊥)
      → tightness_of t tags bytes ≡ loose i p
  at_number_loose {tags} {bytes} {i} {p} {rest} {at} ls w value f len a h el ev s n =
      let wide : ℕ = get_or ls (rest % 4) 0 in
      let later : List ℕ = drop (suc p) (widths t (get_or tags i 0)) ++ column_widths t (drop (suc i) tags) in
      loose_at tags bytes i p h a.inside
      (a.to.run ∙ ap (λ (l : List ℕ). 4 * i + p + tight_run t l (drop at bytes)) (at_hand ls a h el)
      ∙ ap (λ (x : ℕ). 4 * i + p + x) (run_stops wide later (drop at bytes) (λ x. n (x ∙ sym (s.len ∙ ap (short_width t) ev))))
      ∙ add-zero (4 * i + p))

  -- all four have
  pub at_number_done : {tags bytes : List ℕ} {i p rest at : ℕ} → AtNumber tags bytes i p rest at → 4 ≤ p → AtGroup tags bytes (i + 1) at
  at_number_done {tags} {bytes} {i} {p} {rest} {at} a h =
      let e : p ≡ 4 = omega (arith, a.turn) in
      let ws : List ℕ = widths t (get_or tags i 0) in
      let none : drop p ws ≡ [] = ap (λ (n : ℕ). drop n ws) e ∙ widths_done t (get_or tags i 0) in
      let group : 4 * i + p ≡ 4 * (i + 1) = omega arith in
      record {
        inside = omega (arith, a.inside);
        to = subst (λ (n : ℕ). TightTo (column_widths t tags) bytes (4 * (i + 1)) (column_widths t (drop n tags)) at) (sym (add-one i))
            (subst (λ (n : ℕ). TightTo (column_widths t tags) bytes n (column_widths t (drop (suc i) tags)) at) group
            (subst (λ (l : List ℕ). TightTo (column_widths t tags) bytes (4 * i + p) (l ++ column_widths t (drop (suc i) tags)) at) none a.to));
      }
