-- Demand 2: decoding gives back what was encoded, shortest widths, steps modulo m, and what is tight. Assumes nothing.
use mathlib.Core.Path.{◌≡◌, refl, ap, ap₂, sym, ◌∙◌, subst}
use mathlib.Core.List.{List, [], ◌∷◌, ◌++◌, map}
use Prim.Native.Nat.{ℕ, zero, suc, ◌+◌, ◌-◌, ◌*◌, ◌/◌, ◌≤◌, ◌<◌}
use native.Mathlib.Nat.{mod-lt}
use native.Mathlib.Omega.{arith}
use lib.ListN.{length, take, drop, length-append, length-drop, take-append-drop}
use lib.Seq.{take_at, length-take-le}
use Rattle.packed.specs.Format.{column_widths, total, data_len, numbers, stored, short_width, tags_of, bytes_of, steps, walked}
use Rattle.packed.specs.Stages.{widest_group}
use Rattle.packed.specs.Calls.{Encoded, accepted, encoded, encoding, encoding_deltas, decoded, decoding_by, decoding, decoding_deltas}
use Rattle.packed.proofs.Bytes.{Below, below-drop}
use Rattle.packed.proofs.Deltas.{walked-steps, steps-length}
use Rattle.packed.proofs.Ends.{Table}
use Rattle.packed.proofs.Encodes.{tags-length, groups_most}
use Rattle.packed.proofs.Groups.{group_widths}
use Rattle.packed.proofs.Widths.{top, bytes_length, bytes_numbers}
use Rattle.theorems.proofs.Accepted.{Decodable, decodes, encodes, encodable}

map_join : (f : ℕ → ℕ) (xs ys : List ℕ) → map f (xs ++ ys) ≡ map f xs ++ map f ys
map_join f [] ys = refl
map_join f (x ∷ xs) ys = ap (λ (l : List ℕ). f x ∷ l) (map_join f xs ys)

below-take : (m n : ℕ) (l : List ℕ) → Below m l → Below m (take n l)
below-take m zero l h i = omega (arith, h 0)
below-take m (suc n) [] h i = h 0
below-take m (suc n) (x ∷ l) h zero = h 0
below-take m (suc n) (x ∷ l) h (suc i) = below-take m n l (λ k. h (suc k)) i

steps-below : (m p : ℕ) (vs : List ℕ) → 0 < m → Below m (steps m p vs)
steps-below m p [] pos i = pos
steps-below m p (v ∷ vs) pos zero = mod-lt (v + (m - p)) pos
steps-below m p (v ∷ vs) pos (suc i) = steps-below m v vs pos i

module _ (t : List ℕ) (is : Table t) where
  -- the tags of a list of values have the values' shortest widths
  pub column_widths_lem : (n : ℕ) (ds : List ℕ) → 4 * n ≡ length ds → Below (top t) ds → column_widths t (tags_of t n ds) ≡ map (short_width t) ds
  column_widths_lem zero ds e h = ap (map (short_width t)) (sym (empty ds (sym e)))
    where
      empty : (l : List ℕ) → length l ≡ 0 → l ≡ []
      empty [] e = refl
      empty (x ∷ l) e = absurd (omega arith)
  column_widths_lem (suc n) ds e h =
      let four : length (take 4 ds) ≡ 4 = length-take-le 4 ds (omega arith) in
      let rest : 4 * n ≡ length (drop 4 ds) = omega (arith, length-drop 4 ds) in
      ap₂ (λ (a b : List ℕ). a ++ b)
      (group_widths t is.four (take 4 ds) four (below-take (top t) 4 ds h))
      (column_widths_lem n (drop 4 ds) rest (below-drop (top t) 4 ds h))
      ∙ sym (map_join (short_width t) (take 4 ds) (drop 4 ds)) ∙ ap (map (short_width t)) (take-append-drop 4 ds)

  -- reading the bytes of a list of values, with any bytes behind, gives the values; and its length is theirs
  pub column_read : (n : ℕ) (ds more : List ℕ) → 4 * n ≡ length ds → Below (top t) ds → stored t (tags_of t n ds) (bytes_of t ds ++ more) ≡ ds
  unfolding stored
  column_read n ds more e h =
      ap (λ (ws : List ℕ). numbers ws (bytes_of t ds ++ more)) (column_widths_lem n ds e h) ∙ bytes_numbers t is.four ds more h

  pub column_len : (n : ℕ) (ds : List ℕ) → 4 * n ≡ length ds → Below (top t) ds → data_len t (tags_of t n ds) ≡ length (bytes_of t ds)
  unfolding data_len
  column_len n ds e h = ap total (column_widths_lem n ds e h) ∙ sym (bytes_length t is.four ds)

  module _ (ds tags bytes : List ℕ) (fits : Below (top t) ds) (ok : (encoding t ds tags bytes).answer.number ≡ 0) where
    out-is : encoding t ds tags bytes
        ≡ encoded (accepted (length (bytes_of t ds)) 0) (tags_of t (length ds / 4) ds ++ drop (length ds / 4) tags) (bytes_of t ds ++ drop (length (bytes_of t ds)) bytes)
    out-is = encodes t tags bytes ds ok

    -- Written is the sum of the shortest widths,
    pub written-is-the-shortest : (encoding t ds tags bytes).answer.count ≡ total (map (short_width t) ds)
    written-is-the-shortest = ap (λ (o : Encoded). o.answer.count) out-is ∙ bytes_length t is.four ds

    -- and never exceeds 16 or 32 a group.
    pub written_at_most : (encoding t ds tags bytes).answer.count ≤ widest_group t * (length ds / 4)
    written_at_most =
        subst (λ (n : ℕ). n ≤ widest_group t * (length ds / 4)) (sym (ap (λ (o : Encoded). o.answer.count) out-is))
        (groups_most t is (length ds / 4) ds (omega (arith, (encodable t tags bytes ds ok).0)))

    tags-cut : take (length ds / 4) (encoding t ds tags bytes).tags ≡ tags_of t (length ds / 4) ds
    tags-cut =
        ap (λ (o : Encoded). take (length ds / 4) o.tags) out-is
        ∙ take_at (tags_of t (length ds / 4) ds) (drop (length ds / 4) tags) (length ds / 4) (tags-length t (length ds / 4) ds)

    bytes_cut : take (encoding t ds tags bytes).answer.count (encoding t ds tags bytes).bytes ≡ bytes_of t ds
    bytes_cut =
        ap (λ (o : Encoded). take o.answer.count o.bytes) out-is
        ∙ take_at (bytes_of t ds) (drop (length (bytes_of t ds)) bytes) (length (bytes_of t ds)) refl

    -- What was encoded is decoded again: with the tags cut to the groups and any bytes behind the written ones.
    pub decoded-again : (make : List ℕ → List ℕ) (more lent : List ℕ) → length lent ≡ length ds
        → decoding_by make t (take (length ds / 4) (encoding t ds tags bytes).tags)
        (take (encoding t ds tags bytes).answer.count (encoding t ds tags bytes).bytes ++ more) lent
        ≡ decoded (accepted (encoding t ds tags bytes).answer.count 0) (make ds)
    decoded-again make more lent el =
        let n : ℕ = length ds / 4 in
        let own : List ℕ = bytes_of t ds in
        let may = encodable t tags bytes ds ok in
        let len : data_len t (tags_of t n ds) ≡ length own = column_len n ds may.0 fits in
        let d : Decodable t (tags_of t n ds) (own ++ more) lent = record {
          fours = omega (arith, tags-length t n ds, may.0);
          limit = omega (arith, tags-length t n ds, may.1);
          there = omega (arith, length-append own more);
        } in
        ap₂ (λ (a b : List ℕ). decoding_by make t a (b ++ more) lent) tags-cut bytes_cut
        ∙ decodes t (tags_of t n ds) (own ++ more) lent make d
        ∙ ap₂ (λ (k : ℕ) (l : List ℕ). decoded (accepted k 0) (make l)) (len ∙ sym (ap (λ (o : Encoded). o.answer.count) out-is)) (column_read n ds more may.0 fits)

  -- Plainly:
  pub decoding_gives_back : (values tags bytes more lent : List ℕ) → Below (top t) values → (encoding t values tags bytes).answer.number ≡ 0 → length lent ≡ length values
      → decoding t (take (length values / 4) (encoding t values tags bytes).tags)
      (take (encoding t values tags bytes).answer.count (encoding t values tags bytes).bytes ++ more) lent
      ≡ decoded (accepted (encoding t values tags bytes).answer.count 0) values
  decoding_gives_back values tags bytes more lent fits ok el = decoded-again values tags bytes fits ok (λ (ns : List ℕ). ns) more lent el

  -- and by deltas from the same start, modulo 2 ^ 32 or 2 ^ 64.
  pub delta_decoding_gives_back : (start : ℕ) (values tags bytes more lent : List ℕ) → start < top t → Below (top t) values
      → (encoding_deltas t (top t) start values tags bytes).answer.number ≡ 0 → length lent ≡ length values
      → decoding_deltas t (top t) start (take (length values / 4) (encoding_deltas t (top t) start values tags bytes).tags)
      (take (encoding_deltas t (top t) start values tags bytes).answer.count (encoding_deltas t (top t) start values tags bytes).bytes ++ more) lent
      ≡ decoded (accepted (encoding_deltas t (top t) start values tags bytes).answer.count 0) values
  delta_decoding_gives_back start values tags bytes more lent small fits ok el =
      let ds : List ℕ = steps (top t) start values in
      let same : length ds ≡ length values = steps-length (top t) start values in
      ap (λ (k : ℕ). decoding_deltas t (top t) start (take k (encoding t ds tags bytes).tags)
      (take (encoding t ds tags bytes).answer.count (encoding t ds tags bytes).bytes ++ more) lent) (ap (λ (k : ℕ). k / 4) (sym same))
      ∙ decoded-again ds tags bytes (steps-below (top t) start values (omega arith)) ok (walked (top t) start) more lent (el ∙ sym same)
      ∙ ap (decoded (accepted (encoding t ds tags bytes).answer.count 0)) (walked-steps (top t) start values small fits)
