-- Laws of runs that encode: the tags and the bytes of a column, one group more, the invariants of the loops, and what a run over a whole
-- column leaves. ds are the numbers to be stored: the values, or their steps. Assumes nothing.
use mathlib.Core.Path.{◌≡◌, refl, ap, ap₂, sym, ◌∙◌, subst}
use mathlib.Core.List.{List, [], ◌∷◌, ◌++◌, append_assoc}
use Prim.Native.Nat.{ℕ, zero, suc, ◌+◌, ◌-◌, ◌*◌, ◌%◌, ◌≤◌, ◌<◌, zero-le}
use native.Mathlib.Nat.{zero-add, mul-suc, mul-le-mul_left}
use native.Mathlib.Numerals.{add-one}
use native.Mathlib.Omega.{arith}
use lib.ListN.{length, take, drop, get_or, set, length-append, length-take, length-set}
use lib.Seq.{sets, sets-eq, length-sets, take-add, take_all, drop-drop}
use Rattle.packed.specs.Format.{le_bytes, short_width, tag_of, tags_of, bytes_of, steps}
use Rattle.packed.specs.Group.{Encodes}
use Rattle.packed.specs.Stages.{widest_group}
use Rattle.packed.specs.Column.{RunsEncode}
use Rattle.packed.proofs.Bytes.{le_bytes-length}
use Rattle.packed.proofs.Deltas.{last_of}
use Rattle.packed.proofs.Ends.{Table}
use Rattle.packed.proofs.Loops.{at_most, sets-append}
use Rattle.packed.proofs.Widths.{short_width_is}

-- ---- four numbers of a list

-- the numbers of one group more
take_group : (n : ℕ) (ds : List ℕ) → take (4 * (n + 1)) ds ≡ take (4 * n) ds ++ take 4 (drop (4 * n) ds)
take_group n ds =
    let e : 4 * (n + 1) ≡ 4 * n + 4 = omega arith in
    ap (λ (k : ℕ). take k ds) e ∙ take-add (4 * n) 4 ds

-- ---- steps, cut in two

pub steps-take : (m p n : ℕ) (vs : List ℕ) → take n (steps m p vs) ≡ steps m p (take n vs)
steps-take m p zero vs = refl
steps-take m p (suc n) [] = refl
steps-take m p (suc n) (v ∷ vs) = ap (λ (l : List ℕ). (v + (m - p)) % m ∷ l) (steps-take m v n vs)

pub steps-drop : (m p n : ℕ) (vs : List ℕ) → drop n (steps m p vs) ≡ steps m (last_of p (take n vs)) (drop n vs)
steps-drop m p zero vs = refl
steps-drop m p (suc n) [] = refl
steps-drop m p (suc n) (v ∷ vs) = steps-drop m v n vs

pub last_of-append : (p : ℕ) (xs ys : List ℕ) → last_of p (xs ++ ys) ≡ last_of (last_of p xs) ys
last_of-append p [] ys = refl
last_of-append p (x ∷ xs) ys = last_of-append x xs ys

-- the steps of one group go on from the value before it
pub steps_group : (m p n : ℕ) (vs : List ℕ) → take 4 (drop n (steps m p vs)) ≡ steps m (last_of p (take n vs)) (take 4 (drop n vs))
steps_group m p n vs = ap (take 4) (steps-drop m p n vs) ∙ steps-take m (last_of p (take n vs)) 4 (drop n vs)

module _ (t : List ℕ) where
  -- ---- the tags and the bytes of a column

  pub tags-length : (n : ℕ) (ds : List ℕ) → length (tags_of t n ds) ≡ n
  tags-length zero ds = refl
  tags-length (suc n) ds = ap suc (tags-length n (drop 4 ds))

  -- one tag more at the end
  pub tags_more : (n : ℕ) (ds : List ℕ) → tags_of t (n + 1) ds ≡ tags_of t n ds ++ (tag_of t (take 4 (drop (4 * n) ds)) ∷ [])
  tags_more n ds = rw (add-one n) (go n ds)
    where
      go : (n : ℕ) (ds : List ℕ) → tags_of t (suc n) ds ≡ tags_of t n ds ++ (tag_of t (take 4 (drop (4 * n) ds)) ∷ [])
      go zero ds = refl
      go (suc n) ds =
          let e : 4 + 4 * n ≡ 4 * suc n = omega arith in
          let there : drop (4 * n) (drop 4 ds) ≡ drop (4 * suc n) ds = drop-drop (4 * n) 4 ds ∙ ap (λ (k : ℕ). drop k ds) e in
          ap (λ (l : List ℕ). tag_of t (take 4 ds) ∷ l)
          (go n (drop 4 ds) ∙ ap (λ (l : List ℕ). tags_of t n (drop 4 ds) ++ (tag_of t (take 4 l) ∷ [])) there)

  pub bytes_append : (xs ys : List ℕ) → bytes_of t (xs ++ ys) ≡ bytes_of t xs ++ bytes_of t ys
  bytes_append [] ys = refl
  bytes_append (x ∷ xs) ys =
      ap (λ (l : List ℕ). le_bytes (short_width t x) x ++ l) (bytes_append xs ys)
      ∙ sym (append_assoc (le_bytes (short_width t x) x) (bytes_of t xs) (bytes_of t ys))

  pub bytes_more : (n : ℕ) (ds : List ℕ) → bytes_of t (take (4 * (n + 1)) ds) ≡ bytes_of t (take (4 * n) ds) ++ bytes_of t (take 4 (drop (4 * n) ds))
  bytes_more n ds = ap (bytes_of t) (take_group n ds) ∙ bytes_append (take (4 * n) ds) (take 4 (drop (4 * n) ds))

  -- ---- runs

  pub encode_none : (ds tags bytes : List ℕ) → RunsEncode t ds tags bytes 0 0 tags bytes
  encode_none ds tags bytes = record { written = refl; tags_are = refl; bytes_are = refl }

  -- one group more
  pub encode_more : {ds tags bytes tags' bytes' : List ℕ} {n written : ℕ} (group : List ℕ) (tag len : ℕ) (tags'' bytes'' : List ℕ)
      → RunsEncode t ds tags bytes n written tags' bytes' → group ≡ take 4 (drop (4 * n) ds) → Encodes t group bytes' written tag len bytes''
      → tags'' ≡ set tags' n tag → RunsEncode t ds tags bytes (n + 1) (written + len) tags'' bytes''
  encode_more {ds} {tags} {bytes} {tags'} {bytes'} {n} {written} group tag len tags'' bytes'' r eg e et =
      let front : List ℕ = bytes_of t (take (4 * n) ds) in
      let own : List ℕ = bytes_of t group in
      let tag_is : tag ≡ tag_of t (take 4 (drop (4 * n) ds)) = e.tag ∙ ap (tag_of t) eg in
      let more : bytes_of t (take (4 * (n + 1)) ds) ≡ front ++ own = bytes_more n ds ∙ ap (λ (l : List ℕ). front ++ bytes_of t l) (sym eg) in
      let place : written ≡ 0 + length front = r.written ∙ sym (zero-add (length front)) in
      record {
        written = ap₂ (λ (x y : ℕ). x + y) r.written e.written ∙ sym (length-append front own) ∙ ap length (sym more);
        tags_are = et ∙ ap₂ (λ (l : List ℕ) (k : ℕ). set l k tag) r.tags_are (sym (tags-length n ds) ∙ sym (zero-add (length (tags_of t n ds))))
            ∙ sym (sets-append tags 0 (tags_of t n ds) (tag ∷ []))
            ∙ ap (λ (x : ℕ). sets tags 0 (tags_of t n ds ++ (x ∷ []))) tag_is
            ∙ ap (sets tags 0) (sym (tags_more n ds));
        bytes_are = e.output ∙ ap₂ (λ (l : List ℕ) (k : ℕ). sets l k own) r.bytes_are place
            ∙ sym (sets-append bytes 0 front own) ∙ ap (sets bytes 0) (sym more);
      }

  -- ---- the loops: n groups are to be encoded, and i are

  pub record RunningEncode (ds tags₀ bytes₀ : List ℕ) (n i written : ℕ) (tags bytes : List ℕ) : Type 0 where
    pub inside : i ≤ n
    pub room : written ≤ widest_group t * i
    pub same-tags : length tags ≡ length tags₀
    pub same_bytes : length bytes ≡ length bytes₀
    pub runs : RunsEncode t ds tags₀ bytes₀ i written tags bytes

  -- ---- a whole column

  -- What a run over all numbers leaves: the tags and the bytes, and behind them what was there.
  pub record EncodesAll (ds tags bytes : List ℕ) (n written : ℕ) (tags' bytes' : List ℕ) : Type 0 where
    pub written_is : written ≡ length (bytes_of t ds)
    pub most : written ≤ widest_group t * n
    pub tags_are : tags' ≡ tags_of t n ds ++ drop n tags
    pub bytes_are : bytes' ≡ bytes_of t ds ++ drop (length (bytes_of t ds)) bytes

module _ (t : List ℕ) (is : Table t) where
  -- no number takes more than the widest width
  bytes_most : (vs : List ℕ) → length (bytes_of t vs) ≤ get_or t 3 0 * length vs
  bytes_most [] = zero-le
  bytes_most (v ∷ vs) =
      let own : length (le_bytes (short_width t v) v) ≡ short_width t v = le_bytes-length (short_width t v) v in
      let width : short_width t v ≤ get_or t 3 0 =
      subst (λ (n : ℕ). n ≤ get_or t 3 0) (sym (short_width_is t v)) (at_most (get_or t 3 0) t is.last _) in
      omega (arith, length-append (le_bytes (short_width t v) v) (bytes_of t vs), bytes_most vs, mul-suc (get_or t 3 0) (length vs))

  -- so no column of n groups takes more than n widest groups
  pub groups_most : (n : ℕ) (ds : List ℕ) → length ds ≤ 4 * n → length (bytes_of t ds) ≤ widest_group t * n
  groups_most n ds h =
      let most : get_or t 3 0 * length ds ≤ get_or t 3 0 * (4 * n) = mul-le-mul_left (get_or t 3 0) h in
      omega (arith, bytes_most ds)

  -- nor one group more than one
  pub encodes_most : {group bytes bytes' : List ℕ} {at tag len : ℕ} → Encodes t group bytes at tag len bytes' → length group ≤ 4 → len ≤ widest_group t
  encodes_most {group} e h = omega (arith, e.written, groups_most 1 group h)

  taken_most : (n : ℕ) (ds : List ℕ) → length (take n ds) ≤ n
  taken_most n ds = omega (arith, length-take n ds)

  pub running_encode_next : {ds tags₀ bytes₀ tags bytes : List ℕ} {n i written : ℕ} (group : List ℕ) (tag len : ℕ) (tags' bytes' : List ℕ)
      → RunningEncode t ds tags₀ bytes₀ n i written tags bytes → i < n → group ≡ take 4 (drop (4 * i) ds) → Encodes t group bytes written tag len bytes'
      → tags' ≡ set tags i tag → RunningEncode t ds tags₀ bytes₀ n (i + 1) (written + len) tags' bytes'
  running_encode_next {ds} {tags₀} {bytes₀} {tags} {bytes} {n} {i} {written} group tag len tags' bytes' r h eg e et =
      let runs' : RunsEncode t ds tags₀ bytes₀ (i + 1) (written + len) tags' bytes' = encode_more t group tag len tags' bytes' r.runs eg e et in
      record {
        inside = omega arith;
        room = subst (λ (k : ℕ). k ≤ widest_group t * (i + 1)) (sym runs'.written)
            (groups_most (i + 1) (take (4 * (i + 1)) ds) (taken_most (4 * (i + 1)) ds));
        same-tags = ap length et ∙ length-set tags i tag ∙ r.same-tags;
        same_bytes = ap length e.output ∙ length-sets bytes written (bytes_of t group) ∙ r.same_bytes;
        runs = runs';
      }

  pub encodes_all : {ds tags bytes tags' bytes' : List ℕ} {n written : ℕ} → RunsEncode t ds tags bytes n written tags' bytes' → 4 * n ≡ length ds
      → n ≤ length tags → length (bytes_of t ds) ≤ length bytes → EncodesAll t ds tags bytes n written tags' bytes'
  encodes_all {ds} {tags} {bytes} {tags'} {bytes'} {n} {written} r e ht hb =
      let whole : take (4 * n) ds ≡ ds = take_all (4 * n) ds (omega arith) in
      let own : List ℕ = tags_of t n ds in
      let stored : List ℕ = bytes_of t ds in
      let written_all : written ≡ length stored = r.written ∙ ap (λ (l : List ℕ). length (bytes_of t l)) whole in
      record {
        written_is = written_all;
        most = subst (λ (k : ℕ). k ≤ widest_group t * n) (sym written_all) (groups_most n ds (omega arith));
        tags_are = r.tags_are ∙ sets-eq own tags 0 (omega (arith, tags-length t n ds))
            ∙ ap (λ (k : ℕ). own ++ drop k tags) (zero-add (length own) ∙ tags-length t n ds);
        bytes_are = r.bytes_are ∙ ap (λ (l : List ℕ). sets bytes 0 (bytes_of t l)) whole ∙ sets-eq stored bytes 0 (omega arith)
            ∙ ap (λ (k : ℕ). stored ++ drop k bytes) (zero-add (length stored));
      }
