-- What the checks of counts say of a call's rows, over the numbers ds that so many values are. Assumes nothing.
use Rattle.std.proofs.Common.{◌≡◌, ℕ, List, ◌/◌, max, length, refl, ap}
use Rattle.packed.specs.Stages.{widest_group}
use Rattle.packed.specs.Refusals.{Lent, lent_to_encode, lent_to_decode, first_of, encoding_rows}
use Rattle.answers.specs.Meaning.{count_rows}

module _ (t tags bytes ds : List ℕ) (count : ℕ) (same : length ds ≡ count) where
  pub encoding_says : {n : ℕ} (widest : ℕ) → widest_group t ≡ widest
      → ((t : List ℕ) (l : Lent) → l.values ≡ count → l.groups ≡ count / 4 → length l.tags ≡ length tags → l.bytes ≡ length bytes → widest_group t ≡ widest → n ≡ first_of t l encoding_rows)
      → n ≡ first_of t (lent_to_encode (length ds) tags (length bytes)) encoding_rows
  encoding_says widest is says =
      says t (lent_to_encode (length ds) tags (length bytes)) same (ap (λ (n : ℕ). n / 4) same) refl refl is

  pub decoding_says : {n : ℕ}
      → ((t : List ℕ) (l : Lent) → l.values ≡ count → l.groups ≡ max (count / 4) (length tags) → length l.tags ≡ length tags → n ≡ first_of t l count_rows)
      → n ≡ first_of t (lent_to_decode (length ds) tags (length bytes)) count_rows
  decoding_says says = says t (lent_to_decode (length ds) tags (length bytes)) same (ap (λ (n : ℕ). max (n / 4) (length tags)) same) refl
