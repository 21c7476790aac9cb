-- Demand 2, tightness: encoding always yields a tight pair, and encoding the decoded values gives back the tags and the bytes read exactly
-- when the pair is tight. Assumes nothing.
use mathlib.Core.Path.{◌≡◌, refl, ap, ap₂, sym, ◌∙◌, subst}
use mathlib.Core.Bool.{Bool, true, false}
use mathlib.Core.Logic.{◌↔◌}
use mathlib.Core.List.{List, [], ◌∷◌, ◌++◌, map, map-append}
use Prim.Native.Nat.{ℕ, zero, suc, ◌+◌, ◌*◌, ◌/◌, ◌%◌, ◌^◌, ◌≤◌, ◌<◌, zero-le}
use native.Mathlib.Nat.{suc_inj, mod-lt, mod-eq_of_lt, div-one, add-mul-div_left, add-mul-mod_self_left, div-eq_of_lt, div-div-eq-div-mul, zero-add, lt_of_lt_of_le, pow-le-pow_right, not-suc-le-zero, le_of_suc-le-suc, le_antisymm, lt_irrefl, lt_of_not-le}
use native.Mathlib.Omega.{arith}
use lib.Dec.{T, eqb, ltb, lit<, ltb→lt}
use lib.ListN.{length, take, drop, get_or, length-drop, length-map}
use lib.Seq.{take_at, drop_at, take-add}
use borrow.Author.Tests.{eq-eqb, eqb-true}
use Rattle.packed.specs.Format.{pick, field, widths, column_widths, total, data_len, numbers, stored, le_value, le_bytes, shortest, short_width, tag_of, tags_of, bytes_of}
use Rattle.packed.specs.Calls.{tight, loose, tight_run, tightness_of}
use Rattle.packed.proofs.Bytes.{Below, below-drop, byte_power_pos, le_value-below}
use Rattle.packed.proofs.Columns.{column_length}
use Rattle.packed.proofs.Ends.{Table}
use Rattle.packed.proofs.Loops.{at_most}
use Rattle.packed.proofs.Numbers.{numbers-length, numbers-append}
use Rattle.packed.proofs.Table.{both, both_left, both_right}
use Rattle.packed.proofs.Widths.{top, widths-length, short_width_is, shortest-field}
use Rattle.theorems.proofs.Format.{column_widths_lem, column_read}

-- ---- a run of tight numbers is as long as the list exactly where each width is the shortest of its number

module _ (t : List ℕ) where
  all_tight : (ws s : List ℕ) → ws ≡ map (short_width t) (numbers ws s) → tight_run t ws s ≡ length ws
  all_tight [] s e = refl
  all_tight (w ∷ ws) s e =
      let here : w ≡ short_width t (le_value (take w s)) = ap (λ (l : List ℕ). get_or l 0 0) e in
      let rest : ws ≡ map (short_width t) (numbers ws (drop w s)) = ap (drop 1) e in
      ap (λ (b : Bool). pick b (suc (tight_run t ws (drop w s))) 0) (eq-eqb w (short_width t (le_value (take w s))) here)
      ∙ ap suc (all_tight ws (drop w s) rest)

  run_step : (w v n k : ℕ) (b : Bool) → eqb w (short_width t v) ≡ b → pick b (suc n) 0 ≡ suc k → (w ≡ short_width t v) × (n ≡ k)
  run_step w v n k true e h = (eqb-true w (short_width t v) e, suc_inj h)
  run_step w v n k false e h = absurd (omega arith)

  tight_all : (ws s : List ℕ) → tight_run t ws s ≡ length ws → ws ≡ map (short_width t) (numbers ws s)
  tight_all [] s e = refl
  tight_all (w ∷ ws) s e =
      let v : ℕ = le_value (take w s) in
      let h = run_step w v (tight_run t ws (drop w s)) (length ws) (eqb w (short_width t v)) refl e in
      ap₂ (λ (x : ℕ) (l : List ℕ). x ∷ l) h.0 (tight_all ws (drop w s) h.1)

  -- ---- the bytes of such numbers are those that were read

  bytes_back : (w : ℕ) (s : List ℕ) → Below 256 s → w ≤ length s → le_bytes w (le_value (take w s)) ≡ take w s
  bytes_back zero s h n = refl
  bytes_back (suc w) [] h n = absurd (not-suc-le-zero n)
  bytes_back (suc w) (b ∷ s) h n =
      let x : ℕ = le_value (take w s) in
      let low : (b + 256 * x) % 256 ≡ b = add-mul-mod_self_left b 256 x ∙ mod-eq_of_lt (h 0) in
      let high : (b + 256 * x) / 256 ≡ x = add-mul-div_left b x (lit< tt) ∙ ap (λ (q : ℕ). q + x) (div-eq_of_lt (h 0)) ∙ zero-add x in
      ap₂ (λ (y : ℕ) (l : List ℕ). y ∷ l) low (ap (le_bytes w) high ∙ bytes_back w s (λ i. h (suc i)) (le_of_suc-le-suc n))

  bytes_of_tight : (ws s : List ℕ) → Below 256 s → total ws ≤ length s → ws ≡ map (short_width t) (numbers ws s) → bytes_of t (numbers ws s) ≡ take (total ws) s
  bytes_of_tight [] s h n e = refl
  bytes_of_tight (w ∷ ws) s h n e =
      let v : ℕ = le_value (take w s) in
      let here : w ≡ short_width t v = ap (λ (l : List ℕ). get_or l 0 0) e in
      let rest : ws ≡ map (short_width t) (numbers ws (drop w s)) = ap (drop 1) e in
      ap₂ (λ (a b : List ℕ). a ++ b)
      (ap (λ (k : ℕ). le_bytes k v) (sym here) ∙ bytes_back w s h (omega arith))
      (bytes_of_tight ws (drop w s) (below-drop 256 w s h) (omega (arith, length-drop w s)) rest)
      ∙ sym (take-add w (total ws) s)

-- ---- fields of a table whose widths rise: the test computes

abbrev pub rising : List ℕ → Bool
rising [] = true
rising (a ∷ []) = true
rising (a ∷ b ∷ rest) = both (ltb a b) (rising (b ∷ rest))

rises : (t : List ℕ) (f g : ℕ) → T (rising t) → f < g → g < length t → get_or t f 0 < get_or t g 0
rises [] f g r h n = absurd (not-suc-le-zero n)
rises (a ∷ []) f zero r h n = absurd (not-suc-le-zero h)
rises (a ∷ []) f (suc g) r h n = absurd (omega arith)
rises (a ∷ b ∷ rest) f zero r h n = absurd (not-suc-le-zero h)
rises (a ∷ b ∷ rest) zero (suc zero) r h n = ltb→lt a b (both_left (ltb a b) (rising (b ∷ rest)) r)
rises (a ∷ b ∷ rest) zero (suc (suc g)) r h n =
    omega (
      arith,
      ltb→lt a b (both_left (ltb a b) (rising (b ∷ rest)) r),
      rises (b ∷ rest) zero (suc g) (both_right (ltb a b) (rising (b ∷ rest)) r) (omega arith) (le_of_suc-le-suc n),
    )
rises (a ∷ b ∷ rest) (suc f) (suc g) r h n = rises (b ∷ rest) f g (both_right (ltb a b) (rising (b ∷ rest)) r) (le_of_suc-le-suc h) (le_of_suc-le-suc n)

same_field : (t : List ℕ) (f g : ℕ) → T (rising t) → f < length t → g < length t → get_or t f 0 ≡ get_or t g 0 → f ≡ g
same_field t f g r hf hg e =
    le_antisymm
    (lt-suc-le (λ h. lt_irrefl (get_or t f 0) (subst (λ (x : ℕ). x < get_or t f 0) (sym e) (rises t g f r h hf))))
    (lt-suc-le (λ h. lt_irrefl (get_or t g 0) (subst (λ (x : ℕ). x < get_or t g 0) e (rises t f g r h hg))))
  where
    lt-suc-le : {a b : ℕ} → ¬ (b < a) → a ≤ b
    lt-suc-le {a} {b} h = le_of_suc-le-suc (lt_of_not-le h)

-- a byte is made of its four fields
fields_make : (tag : ℕ) → tag < 256 → tag / 1 % 4 + 4 * (tag / 4 % 4 + 4 * (tag / 16 % 4 + 4 * (tag / 64 % 4 + 4 * 0))) ≡ tag
fields_make tag small =
    let two : tag / 16 ≡ tag / 4 / 4 = sym (div-div-eq-div-mul tag 4 4) in
    let three : tag / 64 ≡ tag / 4 / 4 / 4 = sym (div-div-eq-div-mul (tag / 4) 4 4 ∙ div-div-eq-div-mul tag 4 16) in
    rw (div-one tag, two, three) (go (tag / 4) (tag / 4 / 4) (tag / 4 / 4 / 4) refl refl refl)
  where
    go : (a b c : ℕ) → a ≡ tag / 4 → b ≡ a / 4 → c ≡ b / 4 → tag % 4 + 4 * (a % 4 + 4 * (b % 4 + 4 * (c % 4 + 4 * 0))) ≡ tag
    go a b c ea eb ec = omega arith

field-small : (tag i : ℕ) → field tag i < 4
unfolding field
field-small tag i = mod-lt (tag / 4 ^ i) (lit< tt)

module _ (t : List ℕ) (is : Table t) (up : T (rising t)) where
  -- ---- stored numbers are below what the widest field holds

  narrow : (tags : List ℕ) (i : ℕ) → get_or (column_widths t tags) i 0 ≤ get_or t 3 0
  unfolding widths
  narrow [] i = zero-le
  narrow (tag ∷ tags) zero = at_most (get_or t 3 0) t is.last (field tag 0)
  narrow (tag ∷ tags) (suc zero) = at_most (get_or t 3 0) t is.last (field tag 1)
  narrow (tag ∷ tags) (suc (suc zero)) = at_most (get_or t 3 0) t is.last (field tag 2)
  narrow (tag ∷ tags) (suc (suc (suc zero))) = at_most (get_or t 3 0) t is.last (field tag 3)
  narrow (tag ∷ tags) (suc (suc (suc (suc i)))) = narrow tags i

  numbers-below : (ws s : List ℕ) → ((i : ℕ) → get_or ws i 0 ≤ get_or t 3 0) → Below 256 s → Below (top t) (numbers ws s)
  numbers-below [] s n h i = byte_power_pos (get_or t 3 0)
  numbers-below (w ∷ ws) s n h zero = lt_of_lt_of_le (le_value-below w s h) (pow-le-pow_right (lit< tt) (n 0))
  numbers-below (w ∷ ws) s n h (suc i) = numbers-below ws (drop w s) (λ k. n (suc k)) (below-drop 256 w s h) i

  pub stored-below : (tags s : List ℕ) → Below 256 s → Below (top t) (stored t tags s)
  unfolding stored
  stored-below tags s h = numbers-below (column_widths t tags) s (narrow tags) h

  -- ---- the tag of such a group is the tag that was read

  field_back : (tag i v : ℕ) → v < top t → get_or t (field tag i) 0 ≡ short_width t v → shortest t v ≡ field tag i
  field_back tag i v h e =
      sym (same_field t (field tag i) (shortest t v) up (omega (arith, is.four, field-small tag i)) (omega (arith, is.four, shortest-field t is.four v h)) (e ∙ short_width_is t v))

  tag_back : (tag : ℕ) (s : List ℕ) → tag < 256 → Below 256 s → widths t tag ≡ map (short_width t) (numbers (widths t tag) s) → tag_of t (numbers (widths t tag) s) ≡ tag
  unfolding widths field
  tag_back tag s small h e =
      let ns : List ℕ = numbers (widths t tag) s in
      let below : Below (top t) ns = numbers-below (widths t tag) s (narrow (tag ∷ [])) h in
      let at : (i : ℕ) → get_or (widths t tag) i 0 ≡ get_or (map (short_width t) ns) i 0 = λ i. ap (λ (l : List ℕ). get_or l i 0) e in
      omega (
        arith,
        field_back tag 0 (get_or ns 0 0) (below 0) (at 0),
        field_back tag 1 (get_or ns 1 0) (below 1) (at 1),
        field_back tag 2 (get_or ns 2 0) (below 2) (at 2),
        field_back tag 3 (get_or ns 3 0) (below 3) (at 3),
        fields_make tag small,
      )

  -- a group and what follows it, apart
  front : (xs bs cs ds : List ℕ) → length xs ≡ length cs → xs ++ bs ≡ cs ++ ds → (xs ≡ cs) × (bs ≡ ds)
  front xs bs cs ds n e = (
    sym (take_at xs bs (length xs) refl) ∙ ap (take (length xs)) e ∙ take_at cs ds (length xs) (sym n),
    sym (drop_at xs bs (length xs) refl) ∙ ap (drop (length xs)) e ∙ drop_at cs ds (length xs) (sym n),
  )

  tags_back : (tags s : List ℕ) → Below 256 tags → Below 256 s → column_widths t tags ≡ map (short_width t) (numbers (column_widths t tags) s)
      → tags_of t (length tags) (numbers (column_widths t tags) s) ≡ tags
  tags_back [] s ht h e = refl
  tags_back (tag ∷ tags) s ht h e =
      let ws : List ℕ = widths t tag in
      let rest : List ℕ = column_widths t tags in
      let later : List ℕ = drop (total ws) s in
      let cut : numbers (ws ++ rest) s ≡ numbers ws s ++ numbers rest later = numbers-append ws rest s in
      let four : length (numbers ws s) ≡ 4 = numbers-length ws s ∙ widths-length t tag in
      let apart = front ws rest (map (short_width t) (numbers ws s)) (map (short_width t) (numbers rest later))
      (sym (length-map (numbers ws s) (short_width t) ∙ numbers-length ws s))
      (e ∙ ap (map (short_width t)) cut ∙ map-append (short_width t) (numbers ws s) (numbers rest later)) in
      ap₂ (λ (a b : List ℕ). tag_of t a ∷ tags_of t (length tags) b)
      (ap (take 4) cut ∙ take_at (numbers ws s) (numbers rest later) 4 four)
      (ap (drop 4) cut ∙ drop_at (numbers ws s) (numbers rest later) 4 four)
      ∙ ap₂ (λ (a : ℕ) (l : List ℕ). a ∷ l) (tag_back tag s (ht 0) h apart.0) (tags_back tags later (λ i. ht (suc i)) (below-drop 256 (total ws) s h) apart.1)

  -- ---- what tight means

  tight_run_lem : (tags s : List ℕ) → tightness_of t tags s ≡ tight → tight_run t (column_widths t tags) s ≡ length (column_widths t tags)
  unfolding tightness_of
  tight_run_lem tags s e = go (eqb (tight_run t (column_widths t tags) s) (4 * length tags)) refl e
    where
      go : (b : Bool) → eqb (tight_run t (column_widths t tags) s) (4 * length tags) ≡ b
          → pick b tight (loose (tight_run t (column_widths t tags) s / 4) (tight_run t (column_widths t tags) s % 4)) ≡ tight
          → tight_run t (column_widths t tags) s ≡ length (column_widths t tags)
      go true eb h = eqb-true _ _ eb ∙ sym (column_length t tags)
      go false eb h = absurd (never _ _ h)
        where
          never : (g p : ℕ) → loose g p ≡ tight → ⊥
          never g p q = let z : ◌≡◌ {A = ℕ} 0 1 = cc in omega arith

  run_tight : (tags s : List ℕ) → tight_run t (column_widths t tags) s ≡ length (column_widths t tags) → tightness_of t tags s ≡ tight
  unfolding tightness_of
  run_tight tags s e =
      ap (λ (b : Bool). pick b tight (loose (tight_run t (column_widths t tags) s / 4) (tight_run t (column_widths t tags) s % 4)))
      (eq-eqb _ _ (e ∙ column_length t tags))

  -- Encoding always yields a tight pair, with any bytes behind.
  pub encoding_is_tight : (n : ℕ) (ds more : List ℕ) → 4 * n ≡ length ds → Below (top t) ds → tightness_of t (tags_of t n ds) (bytes_of t ds ++ more) ≡ tight
  unfolding stored
  encoding_is_tight n ds more e h =
      let ws : column_widths t (tags_of t n ds) ≡ map (short_width t) ds = column_widths_lem t is n ds e h in
      run_tight (tags_of t n ds) (bytes_of t ds ++ more)
      (all_tight t (column_widths t (tags_of t n ds)) (bytes_of t ds ++ more) (ws ∙ ap (map (short_width t)) (sym (column_read t is n ds more e h))))

  -- Encoding the decoded values gives back the tags and the bytes read exactly when the pair is tight.
  pub back_exactly_when_tight : (tags bytes : List ℕ) → Below 256 tags → Below 256 bytes → data_len t tags ≤ length bytes
      → ((tags_of t (length tags) (stored t tags bytes) ≡ tags) × (bytes_of t (stored t tags bytes) ≡ take (data_len t tags) bytes))
      ↔ (tightness_of t tags bytes ≡ tight)
  unfolding stored data_len
  back_exactly_when_tight tags bytes ht h n = (there, back)
    where
      ns : List ℕ
      ns = numbers (column_widths t tags) bytes

      there : (tags_of t (length tags) ns ≡ tags) × (bytes_of t ns ≡ take (total (column_widths t tags)) bytes) → tightness_of t tags bytes ≡ tight
      there x =
          run_tight tags bytes
          (all_tight t (column_widths t tags) bytes
          (ap (column_widths t) (sym x.0)
          ∙ column_widths_lem t is (length tags) ns (sym (numbers-length (column_widths t tags) bytes ∙ column_length t tags)) (stored-below tags bytes h)))

      back : tightness_of t tags bytes ≡ tight → (tags_of t (length tags) ns ≡ tags) × (bytes_of t ns ≡ take (total (column_widths t tags)) bytes)
      back e =
          let all : column_widths t tags ≡ map (short_width t) ns = tight_all t (column_widths t tags) bytes (tight_run_lem tags bytes e) in
          (tags_back tags bytes ht h all, bytes_of_tight t (column_widths t tags) bytes h n all)
