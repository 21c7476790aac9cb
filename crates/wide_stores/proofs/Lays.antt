-- Laws of bytes laid over a list: nothing laid, a whole word of which a part counts, one behind the other, and what an exact store behind
-- them leaves. Assumes nothing.
use mathlib.Core.Path.{◌≡◌, refl, ap, ap₂, sym, ◌∙◌}
use mathlib.Core.List.{List, [], ◌∷◌, ◌++◌, append_assoc, append-nil}
use Prim.Native.Nat.{ℕ, zero, suc, ◌+◌, ◌-◌, ◌/◌, ◌%◌, ◌≤◌}
use native.Mathlib.Nat.{add-zero, zero-add, not-suc-le-zero, le_of_suc-le-suc}
use native.Mathlib.Omega.{arith}
use lib.ListN.{length, take, drop, length-append, length-drop, take-append-drop}
use lib.Seq.{sets, sets-eq, length-sets, drop-drop, take_at, drop_at, length-take-le}
use Rattle.packed.specs.Format.{le_bytes}
use Rattle.packed.proofs.Bytes.{le_bytes-length}
use Rattle.wide_stores.specs.Wide.{Lays}

-- ---- lists

-- lists that agree from p on agree from any later place on
agree_later : (p j : ℕ) (a b : List ℕ) → p ≤ j → drop p a ≡ drop p b → drop j a ≡ drop j b
agree_later p j a b h e =
    let more : p + (j - p) ≡ j = omega arith in
    ap (λ (k : ℕ). drop k a) (sym more) ∙ sym (drop-drop (j - p) p a) ∙ ap (drop (j - p)) e ∙ drop-drop (j - p) p b
    ∙ ap (λ (k : ℕ). drop k b) more

-- before, in and behind a store
module _ (l : List ℕ) (i : ℕ) (vs : List ℕ) (h : i + length vs ≤ length l) where
  front_length : length (take i l ++ vs) ≡ i + length vs
  front_length = length-append (take i l) vs ∙ ap (λ (n : ℕ). n + length vs) (length-take-le i l (omega arith))

  sets_front : take (i + length vs) (sets l i vs) ≡ take i l ++ vs
  sets_front = ap (take (i + length vs)) (sets-eq vs l i h) ∙ take_at (take i l ++ vs) (drop (i + length vs) l) (i + length vs) front_length

  sets_kept : drop (i + length vs) (sets l i vs) ≡ drop (i + length vs) l
  sets_kept = ap (drop (i + length vs)) (sets-eq vs l i h) ∙ drop_at (take i l ++ vs) (drop (i + length vs) l) (i + length vs) front_length

-- ---- laying

pub lays_none : (n : ℕ) (l : List ℕ) (at : ℕ) → Lays n l at [] l
lays_none n l at = record {
  same = refl;
  front = ap (λ (k : ℕ). take k l) (add-zero at) ∙ sym (append-nil (take at l));
  kept = refl;
}

-- an exact store leaves nothing behind it
pub lays_exact : (l : List ℕ) (at : ℕ) (own : List ℕ) → at + length own ≤ length l → Lays 0 l at own (sets l at own)
lays_exact l at own h = record {
  same = length-sets l at own;
  front = sets_front l at own h;
  kept = rw add-zero (sets_kept l at own h);
}

-- the low bytes of a number, where all w are stored
fewer_bytes : (len w v : ℕ) → len ≤ w → take len (le_bytes w v) ≡ le_bytes len v
fewer_bytes zero w v h = refl
fewer_bytes (suc len) zero v h = absurd (not-suc-le-zero h)
fewer_bytes (suc len) (suc w) v h = ap (λ (l : List ℕ). v % 256 ∷ l) (fewer_bytes len w (v / 256) (le_of_suc-le-suc h))

pub lays_word : (n w len v : ℕ) (l : List ℕ) (at : ℕ) (l' : List ℕ) → l' ≡ sets l at (le_bytes w v) → at + w ≤ length l → len ≤ w → w ≤ len + n
    → Lays n l at (le_bytes len v) l'
lays_word n w len v l at l' e h le more =
    let word : List ℕ = le_bytes w v in
    let own : List ℕ = le_bytes len v in
    let word-length : length word ≡ w = le_bytes-length w v in
    let own-length : length own ≡ len = le_bytes-length len v in
    let fits : at + length word ≤ length l = omega arith in
    let cut_word : word ≡ own ++ drop len word = sym (take-append-drop len word) ∙ ap (λ (x : List ℕ). x ++ drop len word) (fewer_bytes len w v le) in
    let whole : l' ≡ (take at l ++ own) ++ (drop len word ++ drop (at + length word) l) =
    e ∙ sets-eq word l at fits ∙ ap (λ (x : List ℕ). (take at l ++ x) ++ drop (at + length word) l) cut_word ∙ simp append_assoc in
    record {
      same = ap length e ∙ length-sets l at word;
      front = ap (take (at + length own)) whole ∙ take_at (take at l ++ own) _ (at + length own) (front_length l at own (omega arith));
      kept = ap (drop (at + length own + n)) e
          ∙ agree_later (at + length word) (at + length own + n) (sets l at word) l (omega arith) (sets_kept l at word fits);
    }

-- one behind the other: the second covers what the first left, as far as it reaches
pub lays_join : {a b c xs ys : List ℕ} {n k at : ℕ} (at' r : ℕ) → Lays n a at xs b → at' ≡ at + length xs → Lays k b at' ys c → k ≤ r → n ≤ length ys + r
    → Lays r a at (xs ++ ys) c
lays_join {a} {b} {c} {xs} {ys} {n} {k} {at} at' r f e s hk hn =
    let long : at + length (xs ++ ys) ≡ at' + length ys = omega (arith, length-append xs ys) in
    record {
      same = s.same ∙ f.same;
      front = ap (λ (j : ℕ). take j c) long ∙ s.front ∙ ap (λ (j : ℕ). take j b ++ ys) e ∙ ap (λ (l : List ℕ). l ++ ys) f.front
          ∙ append_assoc (take at a) xs ys;
      kept = agree_later (at' + length ys + k) (at + length (xs ++ ys) + r) c b (omega arith) s.kept
          ∙ agree_later (at + length xs + n) (at + length (xs ++ ys) + r) b a (omega arith) f.kept;
    }

-- bytes laid from the start on, and an exact store right behind them that is no shorter than what they left
pub lays_then : {a b : List ℕ} {n : ℕ} (xs ys : List ℕ) → Lays n a 0 xs b → n ≤ length ys → length xs + length ys ≤ length a
    → take (length xs) b ++ sets (drop (length xs) b) 0 ys ≡ sets a 0 (xs ++ ys)
lays_then {a} {b} {n} xs ys f hn h =
    let p : ℕ = length xs in
    let q : ℕ = length ys in
    let long : length (xs ++ ys) ≡ p + q = length-append xs ys in
    let front : take p b ≡ xs = ap (λ (j : ℕ). take j b) (sym (zero-add p)) ∙ f.front in
    let stored : sets (drop p b) 0 ys ≡ ys ++ drop q (drop p b) =
    sets-eq ys (drop p b) 0 (omega (arith, length-drop p b, f.same)) ∙ ap (λ (j : ℕ). ys ++ drop j (drop p b)) (zero-add q) in
    let behind : drop q (drop p b) ≡ drop (0 + length (xs ++ ys)) a =
    drop-drop q p b ∙ agree_later (0 + p + n) (p + q) b a (omega arith) f.kept ∙ ap (λ (j : ℕ). drop j a) (sym (zero-add (length (xs ++ ys)) ∙ long)) in
    ap₂ (λ (u v : List ℕ). u ++ v) front (stored ∙ ap (λ (l : List ℕ). ys ++ l) behind)
    ∙ sym (append_assoc xs ys (drop (0 + length (xs ++ ys)) a))
    ∙ sym (sets-eq (xs ++ ys) a 0 (omega (arith, long)))
