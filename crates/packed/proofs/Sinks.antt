-- The three sinks keep what a sink has to. Assumes nothing.
use mathlib.Core.Path.{◌≡◌, refl, ap, ap₂, sym, ◌∙◌}
use mathlib.Core.List.{List, [], ◌++◌}
use Prim.Native.Nat.{ℕ, ◌+◌, ◌*◌, ◌%◌, ◌≤◌, ◌<◌}
use native.Mathlib.Nat.{add-zero, add_assoc, mod-eq_of_lt, mod-add-mod, add-mod-mod}
use native.Mathlib.Omega.{arith}
use lib.ListN.{length, get_or}
use lib.Seq.{sets, length-sets}
use Rattle.packed.specs.Format.{total, walked, wrapping_sum}
use Rattle.packed.proofs.Deltas.{walked-append, walked-length, walked_last, last_of}
use Rattle.packed.proofs.Fours.{last_of_four}
use Rattle.packed.proofs.Loops.{sets-append}
use Rattle.packed.proofs.Numbers.{total-append}
use Rattle.packed.specs.Sinks.{Stores, Walks, Sums, Sinks}

fewer : (len a b : ℕ) → a ≤ b → 4 * b ≤ len → 4 * a ≤ len
fewer len a b h k = omega arith

sum_none : (m p : ℕ) → p < m → p ≡ (p + total []) % m
sum_none m p h = rw (add-zero p) (sym (mod-eq_of_lt h))

sum_join : (m p q r : ℕ) (xs ys : List ℕ) → q ≡ (p + total xs) % m → r ≡ (q + total ys) % m → r ≡ (p + total (xs ++ ys)) % m
sum_join m p q r xs ys eq er =
    er ∙ ap (λ (j : ℕ). (j + total ys) % m) eq ∙ mod-add-mod (p + total xs) m (total ys)
    ∙ ap (λ (j : ℕ). j % m) (add_assoc p (total xs) (total ys))
    ∙ ap (λ (j : ℕ). (p + j) % m) (sym (total-append xs ys))

pub stores_laws : (m : ℕ) → Sinks m (λ (len n : ℕ). 4 * n ≤ len) Stores
stores_laws m = record {
  fits = fewer;
  keeps = λ ns before place p after q x. ap length x.values ∙ length-sets before place ns;
  none = λ before place p h. record { values = refl };
  join = λ xs ys before between after place p q r h x y. record {
    values = y.values ∙ ap (λ (l : List ℕ). sets l (place + length xs) ys) x.values ∙ sym (sets-append before place xs ys);
  };
}

walks_join : (m : ℕ) (xs ys before between after : List ℕ) (place p q r : ℕ) → p < m → Walks m xs before place p between q
    → Walks m ys between (place + length xs) q after r → Walks m (xs ++ ys) before place p after r
walks_join m xs ys before between after place p q r h x y =
    let there : place + length (walked m p xs) ≡ place + length xs = ap (λ (j : ℕ). place + j) (walked-length m p xs) in
    record {
      last = sum_join m p q r xs ys x.last y.last;
      values = y.values ∙ ap₂ (λ (l : List ℕ) (j : ℕ). sets l (place + length xs) (walked m j ys)) x.values x.last
          ∙ ap (λ (j : ℕ). sets (sets before place (walked m p xs)) j (walked m ((p + total xs) % m) ys)) (sym there)
          ∙ sym (sets-append before place (walked m p xs) (walked m ((p + total xs) % m) ys))
          ∙ ap (sets before place) (sym (walked-append m p xs ys h));
    }

pub walks_laws : (m : ℕ) → Sinks m (λ (len n : ℕ). 4 * n ≤ len) (Walks m)
walks_laws m = record {
  fits = fewer;
  keeps = λ ns before place p after q x. ap length x.values ∙ length-sets before place (walked m p ns);
  none = λ before place p h. record { last = sum_none m p h; values = refl };
  join = walks_join m;
}

-- where nothing is stored any place fits
pub sums_laws : (m : ℕ) → Sinks m (λ (len n : ℕ). len ≡ len) (Sums m)
sums_laws m = record {
  fits = λ len a b h k. refl;
  keeps = λ ns before place p after q x. ap length x.same;
  none = λ before place p h. record { sum = sum_none m p h; same = refl };
  join = λ xs ys before between after place p q r h x y. record { sum = sum_join m p q r xs ys x.sum y.sum; same = y.same ∙ x.same };
}

-- ---- what they make of one group

pub walks_one : (m p : ℕ) (ns group before after : List ℕ) (place q : ℕ) → p < m → length group ≡ 4 → group ≡ walked m p ns → q ≡ get_or group 3 0
    → after ≡ sets before place group → Walks m ns before place p after q
walks_one m p ns group before after place q h four eg eq ea = record {
  last = eq ∙ last_of_four p group four ∙ ap (last_of p) eg ∙ walked_last m p ns h;
  values = ea ∙ ap (sets before place) eg;
}

pub sums_one : (m p s q : ℕ) (ns values : List ℕ) (place : ℕ) → s ≡ wrapping_sum m ns → q ≡ (p + s) % m → Sums m ns values place p values q
unfolding wrapping_sum
sums_one m p s q ns values place es eq = record {
  sum = eq ∙ ap (λ (n : ℕ). (p + n) % m) es ∙ add-mod-mod p (total ns) m;
  same = refl;
}
