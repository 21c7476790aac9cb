-- Laws of numbers, groups and columns that are stored by whole words, over the width table t. Assumes nothing.
use mathlib.Core.Path.{◌≡◌, refl, ap, ap₂, sym, ◌∙◌, subst}
use mathlib.Core.List.{List, [], ◌∷◌, ◌++◌, map, append-nil}
use Prim.Native.Nat.{ℕ, zero, suc, ◌+◌, ◌-◌, ◌*◌, ◌^◌, ◌≤◌, ◌<◌, zero-le}
use native.Mathlib.Nat.{add-zero, zero-add, suc-add, le_refl, mul-add, mul-suc, mul-le-mul_left}
use native.Mathlib.Numerals.{add-one}
use native.Mathlib.Omega.{arith}
use lib.Dec.{T}
use lib.ListN.{length, take, drop, get_or, set, length-append, length-take, length-drop, length-set, drop_of_length-le}
use lib.Seq.{sets, drop-drop, take-add, take_all}
use Rattle.std.proofs.lemmas.List.{drop-map}
use Rattle.packed.specs.Format.{le_bytes, short_width, tag_of, tags_of, bytes_of}
use Rattle.packed.specs.Group.{Shortest, Encodes}
use Rattle.packed.specs.Stages.{widest_group}
use Rattle.packed.specs.Column.{RunsEncode}
use Rattle.packed.proofs.Bytes.{le_bytes-length}
use Rattle.packed.proofs.Encodes.{tags-length, bytes_append, bytes_more, encode_more, groups_most}
use Rattle.packed.proofs.Ends.{Table, at_least}
use Rattle.packed.proofs.Fours.{four_of, four_is}
use Rattle.packed.proofs.Loops.{all_le}
use Rattle.packed.proofs.Table.{every}
use Rattle.packed.proofs.Widths.{top, short_width_is}
use Rattle.packed.proofs.Zeros.{right_at, formulas}
use Rattle.wide_stores.specs.Wide.{Lays, FoundByZeros, StoresWide, EncodesWide, excess, RunsWide}
use Rattle.wide_stores.proofs.Lays.{lays_none, lays_exact, lays_word, lays_join, lays_then}

-- ---- one number

-- field and width by zero bytes: right where they are at each of the w + 1 counts, which antt computes
pub found_by_zeros : (t : List ℕ) (w : ℕ) (f l : ℕ → ℕ) → T (every (suc w) (right_at t w f l)) → length t ≡ 4 → T (all_le w t) → 256 ^ w ≡ top t
    → (z : ℕ) → FoundByZeros t w z (f z) (l z)
found_by_zeros t w f l test four le whole z = record {
  found = λ v h e. subst (λ (k : ℕ). Shortest t w v (f k) (l k)) e (formulas t w w f l test four le whole v h);
}

module _ (t : List ℕ) (is : Table t) where
  short_least : (w v tag len : ℕ) → Shortest t w v tag len → get_or t 0 0 ≤ len
  short_least w v tag len s =
      let least : get_or t 0 0 ≤ get_or t tag 0 = at_least (get_or t 0 0) t is.first tag (omega (arith, s.field, is.four)) in
      let e : len ≡ get_or t tag 0 = s.len ∙ short_width_is t v ∙ ap (λ (f : ℕ). get_or t f 0) (sym s.tag) in
      omega arith

  -- a whole word: what is too much is at most what the widest number has above the narrowest
  pub stores_word : (w n v : ℕ) (before : List ℕ) (at tag len : ℕ) (after : List ℕ) → Shortest t w v tag len → w ≤ get_or t 0 0 + n
      → at + w ≤ length before → after ≡ sets before at (le_bytes w v) → StoresWide t w n v before at tag len after
  stores_word w n v before at tag len after s le h e = record {
    short = s;
    lays = lays_word n w len v before at after e h s.width (omega (arith, short_least w v tag len s));
  }

-- ---- one group

module _ {t : List ℕ} {n : ℕ} where
  none : (l : List ℕ) (at : ℕ) → EncodesWide t n [] l at 0 0 l
  none l at = record { tag = refl; written = refl; lays = lays_none n l at }

  more : {w v at f len tag written : ℕ} {vs before middle after : List ℕ} → StoresWide t w n v before at f len middle
      → EncodesWide t n vs middle (at + len) tag written after → EncodesWide t n (v ∷ vs) before at (f + 4 * tag) (len + written) after
  more {w} {v} {at} {f} {len} {tag} {written} {vs} {before} {middle} {after} s e =
      let own : List ℕ = le_bytes (short_width t v) v in
      let own-length : len ≡ length own = s.short.len ∙ sym (le_bytes-length (short_width t v) v) in
      let laid : Lays n before at own middle = subst (λ (k : ℕ). Lays n before at (le_bytes k v) middle) s.short.len s.lays in
      record {
        tag = ap₂ (λ (x y : ℕ). x + 4 * y) s.short.tag e.tag;
        written = ap₂ (λ (x y : ℕ). x + y) own-length e.written ∙ sym (length-append own (bytes_of t vs));
        lays = lays_join (at + len) n laid (ap (λ (k : ℕ). at + k) own-length) e.lays (le_refl n) (omega arith);
      }

  pub encodes_four : {w at f₀ f₁ f₂ f₃ l₀ l₁ l₂ l₃ : ℕ} {before o₀ o₁ o₂ after : List ℕ} (group : List ℕ) → length group ≡ 4
      → StoresWide t w n (get_or group 0 0) before at f₀ l₀ o₀
      → StoresWide t w n (get_or group 1 0) o₀ (at + l₀) f₁ l₁ o₁
      → StoresWide t w n (get_or group 2 0) o₁ (at + l₀ + l₁) f₂ l₂ o₂
      → StoresWide t w n (get_or group 3 0) o₂ (at + l₀ + l₁ + l₂) f₃ l₃ after
      → EncodesWide t n group before at (f₀ + 4 * (f₁ + 4 * (f₂ + 4 * f₃))) (at + l₀ + l₁ + l₂ + l₃ - at) after
  encodes_four {w} {at} {f₀} {f₁} {f₂} {f₃} {l₀} {l₁} {l₂} {l₃} {before} {o₀} {o₁} {o₂} {after} group four s₀ s₁ s₂ s₃ =
      let e : EncodesWide t n (four_of group) before at (f₀ + 4 * (f₁ + 4 * (f₂ + 4 * (f₃ + 4 * 0)))) (l₀ + (l₁ + (l₂ + (l₃ + 0)))) after =
      more s₀ (more s₁ (more s₂ (more s₃ (none after (at + l₀ + l₁ + l₂ + l₃))))) in
      let g : four_of group ≡ group = sym (four_is group four) in
      record {
        tag = ap (λ (k : ℕ). f₀ + 4 * (f₁ + 4 * (f₂ + 4 * k))) (sym (add-zero f₃)) ∙ e.tag ∙ ap (tag_of t) g;
        written =
            let same : at + l₀ + l₁ + l₂ + l₃ - at ≡ l₀ + (l₁ + (l₂ + (l₃ + 0))) = omega arith in
            same ∙ e.written ∙ ap (λ (l : List ℕ). length (bytes_of t l)) g;
        lays = subst (λ (l : List ℕ). Lays n before at (bytes_of t l) after) g e.lays;
      }

-- ---- columns

-- there is room for one group more, of w bytes at most
pub room_left : (w i to : ℕ) {written room : ℕ} → written ≤ w * i → i < to → w * to ≤ room → written + w ≤ room
room_left w i to h le fits =
    let more : w * (i + 1) ≤ w * to = mul-le-mul_left w (omega arith) in
    omega (arith, mul-suc w i, ap (λ (k : ℕ). w * k) (add-one i))

-- and for two runs that are behind each other
pub room_joined : (w front to : ℕ) {a b room : ℕ} → front ≤ to → a ≤ w * front → b ≤ w * (to - front) → w * to ≤ room → a + b ≤ room
room_joined w front to h ha hb fits =
    let all : front + (to - front) ≡ to = omega arith in
    omega (arith, mul-add w front (to - front), ap (λ (k : ℕ). w * k) all)

excess_most : (n groups : ℕ) → excess n groups ≤ n
excess_most n zero = zero-le
excess_most n (suc groups) = le_refl n

-- what is left behind is covered where there is any
pub excess_covered : (n groups covered : ℕ) → (0 < groups → n ≤ covered) → excess n groups ≤ covered
excess_covered n zero covered h = zero-le
excess_covered n (suc groups) covered h = h (omega arith)

module _ (t : List ℕ) (n : ℕ) where
  -- ---- the loops: `to` groups are to be encoded, and i are

  pub record RunningWide (ds tags₀ bytes₀ : List ℕ) (to i written : ℕ) (tags bytes : List ℕ) : Type 0 where
    pub inside : i ≤ to
    pub room : written ≤ widest_group t * i
    pub same-tags : length tags ≡ length tags₀
    pub same_bytes : length bytes ≡ length bytes₀
    pub runs : RunsWide t n ds tags₀ bytes₀ i written tags bytes

module _ (t : List ℕ) (is : Table t) {n : ℕ} where
  -- one group more
  runs_more : {ds tags bytes tags' bytes' : List ℕ} {i written : ℕ} (group : List ℕ) (tag len : ℕ) (tags'' bytes'' : List ℕ)
      → RunsWide t n ds tags bytes i written tags' bytes' → group ≡ take 4 (drop (4 * i) ds) → EncodesWide t n group bytes' written tag len bytes''
      → tags'' ≡ set tags' i tag → RunsWide t n ds tags bytes (i + 1) (written + len) tags'' bytes''
  runs_more {ds} {tags} {bytes} {tags'} {bytes'} {i} {written} group tag len tags'' bytes'' r eg e et =
      let front : List ℕ = bytes_of t (take (4 * i) ds) in
      let own : List ℕ = bytes_of t group in
      -- tags and count are those of exact stores
      let exact : RunsEncode t ds tags bytes i written tags' (sets bytes 0 front) = record { written = r.written; tags_are = r.tags_are; bytes_are = refl } in
      let exact-group : Encodes t group (sets bytes 0 front) written tag len (sets (sets bytes 0 front) written own) =
      record { tag = e.tag; written = e.written; output = refl } in
      let next : RunsEncode t ds tags bytes (i + 1) (written + len) tags'' (sets (sets bytes 0 front) written own) =
      encode_more t group tag len tags'' _ exact eg exact-group et in
      let all : front ++ own ≡ bytes_of t (take (4 * (i + 1)) ds) = sym (bytes_more t i ds ∙ ap (λ (l : List ℕ). front ++ bytes_of t l) (sym eg)) in
      let laid : Lays n bytes 0 (front ++ own) bytes'' =
      lays_join written n r.lays (r.written ∙ sym (zero-add (length front))) e.lays (le_refl n) (omega (arith, excess_most n i)) in
      record {
        written = next.written;
        most = subst (λ (k : ℕ). k ≤ widest_group t * (i + 1)) (sym next.written)
            (groups_most t is (i + 1) (take (4 * (i + 1)) ds) (omega (arith, length-take (4 * (i + 1)) ds)));
        tags_are = next.tags_are;
        lays = subst (λ (k : ℕ). Lays (excess n k) bytes 0 (bytes_of t (take (4 * (i + 1)) ds)) bytes'') (sym (add-one i))
            (subst (λ (l : List ℕ). Lays n bytes 0 l bytes'') all laid);
      }

  pub running_wide_next : {ds tags₀ bytes₀ tags bytes : List ℕ} {to i written : ℕ} (group : List ℕ) (tag len : ℕ) (tags' bytes' : List ℕ)
      → RunningWide t n ds tags₀ bytes₀ to i written tags bytes → i < to → group ≡ take 4 (drop (4 * i) ds) → EncodesWide t n group bytes written tag len bytes'
      → tags' ≡ set tags i tag → RunningWide t n ds tags₀ bytes₀ to (i + 1) (written + len) tags' bytes'
  running_wide_next {ds} {tags₀} {bytes₀} {tags} {bytes} {to} {i} {written} group tag len tags' bytes' r h eg e et =
      let runs' : RunsWide t n ds tags₀ bytes₀ (i + 1) (written + len) tags' bytes' = runs_more group tag len tags' bytes' r.runs eg e et in
      record {
        inside = omega arith;
        room = runs'.most;
        same-tags = ap length et ∙ length-set tags i tag ∙ r.same-tags;
        same_bytes = e.lays.same ∙ r.same_bytes;
        runs = runs';
      }

-- ---- the front by whole words, and the rest exactly

tags_join : (t : List ℕ) (a b : ℕ) (ds : List ℕ) → tags_of t (a + b) ds ≡ tags_of t a ds ++ tags_of t b (drop (4 * a) ds)
tags_join t zero b ds = ap (λ (k : ℕ). tags_of t k ds) (zero-add b)
tags_join t (suc a) b ds =
    let place : 4 + 4 * a ≡ 4 * suc a = omega arith in
    rw (suc-add a b) (ap (λ (l : List ℕ). tag_of t (take 4 ds) ∷ l)
    (tags_join t a b (drop 4 ds) ∙ ap (λ (l : List ℕ). tags_of t a (drop 4 ds) ++ tags_of t b l)
    (drop-drop (4 * a) 4 ds ∙ ap (λ (k : ℕ). drop k ds) place)))

pub bytes_join : (t : List ℕ) (a b : ℕ) (ds : List ℕ) → bytes_of t (take (4 * (a + b)) ds) ≡ bytes_of t (take (4 * a) ds) ++ bytes_of t (take (4 * b) (drop (4 * a) ds))
bytes_join t a b ds =
    let place : 4 * (a + b) ≡ 4 * a + 4 * b = omega arith in
    ap (λ (k : ℕ). bytes_of t (take k ds)) place ∙ ap (bytes_of t) (take-add (4 * a) (4 * b) ds) ∙ bytes_append t (take (4 * a) ds) (take (4 * b) (drop (4 * a) ds))

module _ (t : List ℕ) (is : Table t) {n : ℕ} where
  pub wide_then_exact : {ds tags bytes tags₁ bytes₁ : List ℕ} {front written : ℕ} (rest written₂ : ℕ) (tags₂ bytes₂ : List ℕ)
      → RunsWide t n ds tags bytes front written tags₁ bytes₁
      → RunsEncode t (drop (4 * front) ds) (drop front tags₁) (drop written bytes₁) rest written₂ tags₂ bytes₂
      → excess n front ≤ written₂ → front + rest ≤ length tags → widest_group t * (front + rest) ≤ length bytes
      → RunsEncode t ds tags bytes (front + rest) (written + written₂) (take front tags₁ ++ tags₂) (take written bytes₁ ++ bytes₂)
  wide_then_exact {ds} {tags} {bytes} {tags₁} {bytes₁} {front} {written} rest written₂ tags₂ bytes₂ f s covered ht hb =
      let bs : List ℕ = bytes_of t (take (4 * front) ds) in
      let bs₂ : List ℕ = bytes_of t (take (4 * rest) (drop (4 * front) ds)) in
      let ts : List ℕ = tags_of t front ds in
      let ts₂ : List ℕ = tags_of t rest (drop (4 * front) ds) in
      let count : front ≡ length ts = sym (tags-length t front ds) in
      let all : bytes_of t (take (4 * (front + rest)) ds) ≡ bs ++ bs₂ = bytes_join t front rest ds in
      let most : length bs + length bs₂ ≤ length bytes =
      omega (arith, length-append bs bs₂, ap length all, groups_most t is (front + rest) (take (4 * (front + rest)) ds) (omega (arith, length-take (4 * (front + rest)) ds))) in
      let tags-laid : Lays 0 tags 0 ts tags₁ =
      subst (λ (l : List ℕ). Lays 0 tags 0 ts l) (sym f.tags_are) (lays_exact tags 0 ts (omega arith)) in
      record {
        written = ap₂ (λ (x y : ℕ). x + y) f.written s.written ∙ sym (length-append bs bs₂) ∙ ap length (sym all);
        tags_are = ap (λ (l : List ℕ). take front tags₁ ++ l) s.tags_are
            ∙ ap (λ (k : ℕ). take k tags₁ ++ sets (drop k tags₁) 0 ts₂) count
            ∙ lays_then ts ts₂ tags-laid zero-le (omega (arith, tags-length t rest (drop (4 * front) ds)))
            ∙ ap (sets tags 0) (sym (tags_join t front rest ds));
        bytes_are = ap (λ (l : List ℕ). take written bytes₁ ++ l) s.bytes_are
            ∙ ap (λ (k : ℕ). take k bytes₁ ++ sets (drop k bytes₁) 0 bs₂) f.written
            ∙ lays_then bs bs₂ f.lays (omega (arith, s.written)) most
            ∙ ap (sets bytes 0) (sym all);
      }

module _ (t : List ℕ) (is : Table t) where
  pub exact_most : {ds tags bytes tags' bytes' : List ℕ} {groups written : ℕ} → RunsEncode t ds tags bytes groups written tags' bytes' → written ≤ widest_group t * groups
  exact_most {ds} {tags} {bytes} {tags'} {bytes'} {groups} {written} r =
      subst (λ (k : ℕ). k ≤ widest_group t * groups) (sym r.written)
      (groups_most t is groups (take (4 * groups) ds) (omega (arith, length-take (4 * groups) ds)))

-- ---- parts: what is behind a place, and a list with that put back

abbrev pub behind : ℕ → List ℕ → List ℕ
behind a l = take (length l - a) (drop a l)

abbrev pub back_behind : ℕ → List ℕ → List ℕ → List ℕ
back_behind a l ys = take a l ++ (ys ++ drop (length l - a) (drop a l))

pub behind_is : (a : ℕ) (l : List ℕ) → behind a l ≡ drop a l
behind_is a l = take_all (length l - a) (drop a l) (omega (arith, length-drop a l))

-- what is behind a place in a list of elements, as numbers
pub map_behind : {E : Type 0} (f : E → ℕ) (a : ℕ) (l : List E) → map f (take (length l - a) (drop a l)) ≡ drop a (map f l)
map_behind f a l = ap (map f) (take_all (length l - a) (drop a l) (omega (arith, length-drop a l))) ∙ sym (drop-map f a l)

back_is : (a : ℕ) (l ys : List ℕ) → back_behind a l ys ≡ take a l ++ ys
back_is a l ys =
    ap (λ (x : List ℕ). take a l ++ (ys ++ x)) (drop_of_length-le (drop a l) {i = length l - a} (omega (arith, length-drop a l)))
    ∙ ap (λ (x : List ℕ). take a l ++ x) (append-nil ys)

module _ (t : List ℕ) (is : Table t) {n : ℕ} where
  -- the first groups by whole words and the rest, up to `to`, exactly: all is as if stored exactly where the rest covers what the first left
  pub wide_then_rest : {ds tags bytes tags₁ bytes₁ : List ℕ} {front written : ℕ} (to written₂ : ℕ) (ds₂ tags₂ bytes₂ : List ℕ)
      → front ≤ to → to ≤ length tags → widest_group t * to ≤ length bytes → RunsWide t n ds tags bytes front written tags₁ bytes₁ → ds₂ ≡ drop (4 * front) ds
      → RunsEncode t ds₂ (behind front tags₁) (behind written bytes₁) (to - front) written₂ tags₂ bytes₂ → excess n front ≤ written₂
      → RunsEncode t ds tags bytes to (written + written₂) (back_behind front tags₁ tags₂) (back_behind written bytes₁ bytes₂)
  wide_then_rest {ds} {tags} {bytes} {tags₁} {bytes₁} {front} {written} to written₂ ds₂ tags₂ bytes₂ h ht hb f e s covered =
      let all : front + (to - front) ≡ to = omega arith in
      rw (back_is front tags₁ tags₂, back_is written bytes₁ bytes₂)
      (subst (λ (k : ℕ). RunsEncode t ds tags bytes k (written + written₂) (take front tags₁ ++ tags₂) (take written bytes₁ ++ bytes₂)) all
      (wide_then_exact t is (to - front) written₂ tags₂ bytes₂ f
      (rw (e, behind_is front tags₁, behind_is written bytes₁) at s) covered
      (subst (λ (k : ℕ). k ≤ length tags) (sym all) ht) (subst (λ (k : ℕ). widest_group t * k ≤ length bytes) (sym all) hb)))
