-- Laws of what is stored of values, the values or their steps, a group at a time. Assumes nothing.
use mathlib.Core.Path.{◌≡◌, refl, ap, ap₂, sym, ◌∙◌, subst}
use mathlib.Core.List.{List, ◌∷◌, ◌++◌, map}
use Prim.Native.Nat.{ℕ, zero, suc, ◌+◌, ◌-◌, ◌*◌, ◌/◌, ◌≤◌, ◌<◌}
use native.Mathlib.Omega.{arith}
use lib.ListN.{length, take, drop, get_or, set, length-take, length-drop, take-append-drop}
use native.Mathlib.Nat.{le_refl}
use lib.Seq.{sets, drop-drop, take-append_seam, drop-append_seam, take-take}
use Rattle.std.specs.Simd.{first_chunks}
use Rattle.std.proofs.lemmas.List.{drop-map, drop-take, take-map}
use Rattle.packed.specs.Format.{tag_of, tags_of, bytes_of}
use Rattle.packed.specs.Group.{Encodes}
use Rattle.packed.proofs.Ends.{Table}
use Rattle.packed.proofs.Encodes.{RunningEncode, running_encode_next}
use Rattle.wide_stores.specs.Wide.{Lays, EncodesWide, excess, RunsWide}
use Rattle.wide_stores.proofs.Columns.{RunningWide, running_wide_next, room_joined}

-- ---- a group of values, and what is stored of it

chunk_at : {E : Type 0} (xs : List E) (k i : ℕ) (x : List E) → i < k → x ≡ get_or (first_chunks 4 k xs) i x → x ≡ take 4 (drop (4 * i) xs)
chunk_at xs zero i x h e = absurd (omega arith)
chunk_at xs (suc k) zero x h e = e
chunk_at xs (suc k) (suc i) x h e =
    let place : 4 + 4 * i ≡ 4 * suc i = omega arith in
    chunk_at (drop 4 xs) k i x (omega arith) e ∙ ap (take 4) (drop-drop (4 * i) 4 xs ∙ ap (λ (n : ℕ). drop n xs) place)

-- the i-th of the first k groups, as numbers
pub group_at : {E : Type 0} (f : E → ℕ) (xs : List E) (k i : ℕ) (x : List E) (groups : List (List E)) → groups ≡ first_chunks 4 k xs → i < k
    → x ≡ get_or groups i x → map f x ≡ take 4 (drop (4 * i) (map f xs))
group_at f xs k i x groups eg h e =
    ap (map f) (chunk_at xs k i x h (e ∙ ap (λ (l : List (List _)). get_or l i x) eg))
    ∙ sym (take-map f 4 (drop (4 * i) xs)) ∙ ap (take 4) (sym (drop-map f (4 * i) xs))

module _ (now new : List ℕ → List ℕ) (vs ds group stored : List ℕ) where
  split : (at : ℕ) → now (drop at vs) ≡ drop at ds → group ≡ take 4 (drop at vs)
      → ((rest : List ℕ) → now (group ++ rest) ≡ stored ++ new rest) → drop at ds ≡ stored ++ new (drop 4 (drop at vs))
  split at h eg handled =
      let l : List ℕ = drop at vs in
      sym h ∙ ap now (sym (take-append-drop 4 l) ∙ ap (λ (x : List ℕ). x ++ drop 4 l) (sym eg)) ∙ handled (drop 4 l)

  -- the group that is stored
  pub sink_group : (at : ℕ) → now (drop at vs) ≡ drop at ds → group ≡ take 4 (drop at vs)
      → ((rest : List ℕ) → now (group ++ rest) ≡ stored ++ new rest) → length stored ≡ 4 → stored ≡ take 4 (drop at ds)
  sink_group at h eg handled four =
      let later : List ℕ = new (drop 4 (drop at vs)) in
      let e : drop at ds ≡ stored ++ later = split at h eg handled in
      sym (take-append_seam stored later) ∙ ap (λ (k : ℕ). take k (stored ++ later)) four ∙ ap (take 4) (sym e)

  -- and the sink behind it
  pub sink_left : (i : ℕ) → now (drop (4 * i) vs) ≡ drop (4 * i) ds → group ≡ take 4 (drop (4 * i) vs)
      → ((rest : List ℕ) → now (group ++ rest) ≡ stored ++ new rest) → length stored ≡ 4 → new (drop (4 * (i + 1)) vs) ≡ drop (4 * (i + 1)) ds
  sink_left i h eg handled four =
      let later : List ℕ = new (drop 4 (drop (4 * i) vs)) in
      let e : drop (4 * i) ds ≡ stored ++ later = split (4 * i) h eg handled in
      let place : 4 * i + 4 ≡ 4 * (i + 1) = omega arith in
      let seam : drop 4 (stored ++ later) ≡ later = ap (λ (k : ℕ). drop k (stored ++ later)) (sym four) ∙ drop-append_seam stored later in
      ap (λ (k : ℕ). new (drop k vs)) (sym place) ∙ ap new (sym (drop-drop 4 (4 * i) vs))
      ∙ sym seam ∙ ap (drop 4) (sym e)
      ∙ drop-drop 4 (4 * i) ds ∙ ap (λ (k : ℕ). drop k ds) place

-- ---- the loops

module _ (t : List ℕ) where
  pub record RunningWideSink (n : ℕ) (now : List ℕ → List ℕ) (vs ds tags₀ bytes₀ : List ℕ) (to i written : ℕ) (tags bytes : List ℕ) : Type 0 where
    pub running : RunningWide t n ds tags₀ bytes₀ to i written tags bytes
    pub left : now (drop (4 * i) vs) ≡ drop (4 * i) ds

  pub record RunningSink (now : List ℕ → List ℕ) (vs ds tags₀ bytes₀ : List ℕ) (to i written : ℕ) (tags bytes : List ℕ) : Type 0 where
    pub running : RunningEncode t ds tags₀ bytes₀ to i written tags bytes
    pub left : now (drop (4 * i) vs) ≡ drop (4 * i) ds

module _ (t : List ℕ) (is : Table t) where
  pub running_wide_sink_next : (now new : List ℕ → List ℕ) (n : ℕ) (vs ds group stored tags₀ bytes₀ tags bytes : List ℕ) (to i written tag len : ℕ) (tags' bytes' : List ℕ)
      → RunningWideSink t n now vs ds tags₀ bytes₀ to i written tags bytes → i < to → group ≡ take 4 (drop (4 * i) vs)
      → ((rest : List ℕ) → now (group ++ rest) ≡ stored ++ new rest) → length stored ≡ 4 → EncodesWide t n stored bytes written tag len bytes'
      → tags' ≡ set tags i tag → RunningWideSink t n new vs ds tags₀ bytes₀ to (i + 1) (written + len) tags' bytes'
  running_wide_sink_next now new n vs ds group stored tags₀ bytes₀ tags bytes to i written tag len tags' bytes' r h eg handled four e et = record {
    running = running_wide_next t is stored tag len tags' bytes' r.running h (sink_group now new vs ds group stored (4 * i) r.left eg handled four) e et;
    left = sink_left now new vs ds group stored i r.left eg handled four;
  }

  pub running_sink_next : (now new : List ℕ → List ℕ) (vs ds group stored tags₀ bytes₀ tags bytes : List ℕ) (to i written tag len : ℕ) (tags' bytes' : List ℕ)
      → RunningSink t now vs ds tags₀ bytes₀ to i written tags bytes → i < to → group ≡ take 4 (drop (4 * i) vs)
      → ((rest : List ℕ) → now (group ++ rest) ≡ stored ++ new rest) → length stored ≡ 4 → Encodes t stored bytes written tag len bytes'
      → tags' ≡ set tags i tag → RunningSink t new vs ds tags₀ bytes₀ to (i + 1) (written + len) tags' bytes'
  running_sink_next now new vs ds group stored tags₀ bytes₀ tags bytes to i written tag len tags' bytes' r h eg handled four e et = record {
    running = running_encode_next t is stored tag len tags' bytes' r.running h (sink_group now new vs ds group stored (4 * i) r.left eg handled four) e et;
    left = sink_left now new vs ds group stored i r.left eg handled four;
  }

-- ---- a run over the first numbers alone

tags_take : (t : List ℕ) (n : ℕ) (ds : List ℕ) → tags_of t n (take (4 * n) ds) ≡ tags_of t n ds
tags_take t zero ds = refl
tags_take t (suc n) ds =
    let place : 4 * suc n ≡ 4 + 4 * n = omega arith in
    ap₂ (λ (x : ℕ) (l : List ℕ). x ∷ l) (ap (tag_of t) (take-take 4 (4 * suc n) ds (omega arith)))
    (ap (λ (k : ℕ). tags_of t n (drop 4 (take k ds))) place ∙ ap (tags_of t n) (drop-take 4 (4 * n) ds) ∙ tags_take t n (drop 4 ds))

-- is one over the first groups of all
pub runs_first : (t : List ℕ) (n : ℕ) (ds front tags bytes : List ℕ) (groups written : ℕ) (tags' bytes' : List ℕ) → front ≡ take (4 * groups) ds
    → RunsWide t n front tags bytes groups written tags' bytes' → RunsWide t n ds tags bytes groups written tags' bytes'
runs_first t n ds front tags bytes groups written tags' bytes' ef r =
    let same : take (4 * groups) front ≡ take (4 * groups) ds = ap (take (4 * groups)) ef ∙ take-take (4 * groups) (4 * groups) ds (le_refl (4 * groups)) in
    record {
      written = r.written ∙ ap (λ (l : List ℕ). length (bytes_of t l)) same;
      most = r.most;
      tags_are = r.tags_are ∙ ap (λ (l : List ℕ). sets tags 0 (tags_of t groups l)) ef ∙ ap (sets tags 0) (tags_take t groups ds);
      lays = subst (λ (l : List ℕ). Lays (excess n groups) bytes 0 (bytes_of t l) bytes') same r.lays;
    }

-- ---- how many groups stand in front of a place, and behind it

pub front_count : {E : Type 0} (front : ℕ) (vs : List E) → front ≤ length vs / 4 → length (take (4 * front) vs) / 4 ≡ front
front_count front vs h = omega (arith, length-take (4 * front) vs)

pub rest_count : {E : Type 0} (front : ℕ) (vs : List E) → front ≤ length vs / 4
    → length (take (length vs - 4 * front) (drop (4 * front) vs)) / 4 ≡ length vs / 4 - front
rest_count front vs h = omega (arith, length-take (length vs - 4 * front) (drop (4 * front) vs), length-drop (4 * front) vs)

-- there is room for the groups behind
pub room_behind : {E : Type 0} (w front : ℕ) (vs : List E) (tags bytes : List ℕ) (written : ℕ) → front ≤ length vs / 4
    → written ≤ w * (length (take (4 * front) vs) / 4) → length vs / 4 ≤ length tags → w * (length vs / 4) ≤ length bytes
    → (length (take (length vs - 4 * front) (drop (4 * front) vs)) / 4 ≤ length (take (length tags - front) (drop front tags)))
    × (w * (length (take (length vs - 4 * front) (drop (4 * front) vs)) / 4) ≤ length (take (length bytes - written) (drop written bytes)))
room_behind w front vs tags bytes written h most ht hb =
    let count = rest_count front vs h in
    let most' : written ≤ w * front = subst (λ (n : ℕ). written ≤ w * n) (front_count front vs h) most in
    let both = room_joined w front (length vs / 4) h most' (le_refl (w * (length vs / 4 - front))) hb in (
      omega (arith, count, length-take (length tags - front) (drop front tags), length-drop front tags),
      subst (λ (n : ℕ). w * n ≤ length (take (length bytes - written) (drop written bytes))) (sym count)
          (omega (arith, both, length-take (length bytes - written) (drop written bytes), length-drop written bytes)),
    )

-- and both together end in it
pub room_both : {E : Type 0} (w front : ℕ) (vs : List E) {a b room : ℕ} → front ≤ length vs / 4 → a ≤ w * (length (take (4 * front) vs) / 4)
    → b ≤ w * (length (take (length vs - 4 * front) (drop (4 * front) vs)) / 4) → w * (length vs / 4) ≤ room → a + b ≤ room
room_both w front vs {a} {b} h ha hb fits =
    room_joined w front (length vs / 4) h (subst (λ (n : ℕ). a ≤ w * n) (front_count front vs h) ha)
    (subst (λ (n : ℕ). b ≤ w * n) (rest_count front vs h) hb) fits
