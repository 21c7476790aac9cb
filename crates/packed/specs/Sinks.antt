-- What a run makes of the numbers that it decodes, over the modulus m. Numbers `ns` come to a sink, whose values were `before` and which
-- carried p, and their place among the values is known; it leaves the values `after`, and carries q.
use Rattle.std.specs.Prelude.{◌≡◌, List, [], ◌++◌, ℕ, ◌+◌, ◌*◌, ◌%◌, ◌≤◌, ◌<◌, length, drop}
use Rattle.std.proofs.lemmas.List.Edits.{sets}
use Rattle.std.proofs.Math.Seq.{slice}
use Rattle.packed.specs.Format.{total, data_len, stored, walked}

-- They are stored at their place.
pub record Stores (ns before : List ℕ) (place p : ℕ) (after : List ℕ) (q : ℕ) : Type 0 where
  pub values : after ≡ sets before place ns

-- They are added back from p on and stored; q is the last value, or p.
pub record Walks (m : ℕ) (ns before : List ℕ) (place p : ℕ) (after : List ℕ) (q : ℕ) : Type 0 where
  pub last : q ≡ (p + total ns) % m
  pub values : after ≡ sets before place (walked m p ns)

-- They are added to p, and nothing is stored.
pub record Sums (m : ℕ) (ns before : List ℕ) (place p : ℕ) (after : List ℕ) (q : ℕ) : Type 0 where
  pub sum : q ≡ (p + total ns) % m
  pub same : after ≡ before

-- What a sink has to keep, so that two runs of it are one.
pub record Sinks (m : ℕ) (Fits : ℕ → ℕ → Type 0) (Took : List ℕ → List ℕ → ℕ → ℕ → List ℕ → ℕ → Type 0) : Type 0 where
  pub fits : (len a b : ℕ) → a ≤ b → Fits len b → Fits len a
  pub keeps : (ns before : List ℕ) (place p : ℕ) (after : List ℕ) (q : ℕ) → Took ns before place p after q → length after ≡ length before
  pub none : (before : List ℕ) (place p : ℕ) → p < m → Took [] before place p before p
  pub join : (xs ys before between after : List ℕ) (place p q r : ℕ) → p < m → Took xs before place p between q
      → Took ys between (place + length xs) q after r → Took (xs ++ ys) before place p after r

-- What a run over the width table t promises: where it ended in the data, and that the sink took the numbers of its groups.
pub record Made (t : List ℕ) (Took : List ℕ → List ℕ → ℕ → ℕ → List ℕ → ℕ → Type 0) (tags bytes before : List ℕ) (from to at p r_read : ℕ) (after : List ℕ) (q : ℕ) : Type 0 where
  pub read : r_read ≡ at + data_len t (slice from to tags)
  pub took : Took (stored t (slice from to tags) (drop at bytes)) before (4 * from) p after q
