-- The invariants of the runs' loops, over the width table t: how each starts, what one group more or eight do, and what it has come to at
-- the end. Assumes nothing.
use mathlib.Core.Path.{◌≡◌, ap, sym, ◌∙◌, subst}
use mathlib.Core.List.{List, map}
use Prim.Native.Nat.{ℕ, ◌+◌, ◌*◌, ◌≤◌, ◌<◌}
use native.Mathlib.Nat.{add-zero, zero-add, add_assoc, le_refl}
use native.Mathlib.Omega.{arith}
use lib.ListN.{length, get_or, drop}
use lib.Seq.{slice}
use Rattle.std.proofs.lemmas.List.{length-map}
use Rattle.packed.specs.Format.{total, widths, numbers, data_len, stored}
use Rattle.packed.specs.Stages.{widest_group}
use Rattle.packed.specs.Column.{Windows}
use Rattle.packed.specs.Sinks.{Sinks, Made}
use Rattle.packed.proofs.Columns.{slice_join, len_join, none_read, none_stored, one_read, one_numbers, stored_join, stored_place}
use Rattle.packed.proofs.Numbers.{data_len-append}

module _ (t : List ℕ) where
  -- ---- how far a run is

  pub record Underway (tags bytes : List ℕ) (from to at i read : ℕ) : Type 0 where
    pub windows : Windows t tags bytes from to at
    pub forward : from ≤ i
    pub inside : i ≤ to
    pub far : read ≡ at + data_len t (slice from i tags)

  pub underway_start : {tags bytes : List ℕ} {from to at : ℕ} → Windows t tags bytes from to at → Underway tags bytes from to at from at
  underway_start {tags} {bytes} {from} {to} {at} w = record {
    windows = w;
    forward = le_refl from;
    inside = w.forward;
    far = none_read t tags bytes from at;
  }

  -- the group at hand has a whole widest group's bytes
  pub window : {tags bytes : List ℕ} {from to at i read : ℕ} → Underway tags bytes from to at i read → i < to → read + widest_group t ≤ length bytes
  window {tags} {bytes} {from} {to} {at} {i} {read} u h = omega (arith, u.far, u.windows.there i u.forward h)

  -- and so have the groups of a part
  pub windows_part : {tags bytes : List ℕ} {from to at i read : ℕ} (j : ℕ) → Underway tags bytes from to at i read → i ≤ j → j ≤ to → Windows t tags bytes i j read
  windows_part {tags} {bytes} {from} {to} {at} {i} {read} j u h hj = record {
    forward = h;
    tags_there = omega (arith, u.windows.tags_there);
    there = λ k hk kj.
        let e : data_len t (slice from k tags) ≡ data_len t (slice from i tags) + data_len t (slice i k tags) =
        ap (data_len t) (slice_join from i k tags u.forward hk (omega (arith, u.windows.tags_there)))
        ∙ data_len-append t (slice from i tags) (slice i k tags) in
        omega (arith, u.far, u.windows.there k (omega (arith, u.forward)) (omega arith));
  }

  further : {tags bytes : List ℕ} {from to at i read : ℕ} (j end : ℕ) → Underway tags bytes from to at i read → i ≤ j → j ≤ to
      → end ≡ read + data_len t (slice i j tags) → Underway tags bytes from to at j end
  further {tags} {bytes} {from} {to} {at} {i} {read} j end u h hj e = record {
    windows = u.windows;
    forward = omega (arith, u.forward);
    inside = hj;
    far = len_join t tags bytes from i j at read end u.forward h (omega (arith, u.inside, u.windows.tags_there)) u.far e;
  }

-- ---- the runs of a sink

module _ (t : List ℕ) (m : ℕ) (Fits : ℕ → ℕ → Type 0) (Took : List ℕ → List ℕ → ℕ → ℕ → List ℕ → ℕ → Type 0) (laws : Sinks m Fits Took) where
  made_none : (tags bytes before : List ℕ) (a at p : ℕ) → p < m → Made t Took tags bytes before a a at p at before p
  made_none tags bytes before a at p h = record {
    read = none_read t tags bytes a at;
    took = rw (none_stored t tags bytes a at) (laws.none before (4 * a) p h);
  }

  -- one group, whose numbers the sink took
  made_one : (tags bytes before : List ℕ) (i at read p : ℕ) (after : List ℕ) (q : ℕ) → i < length tags → read ≡ total (widths t (get_or tags i 0))
      → Took (numbers (widths t (get_or tags i 0)) (drop at bytes)) before (4 * i) p after q → Made t Took tags bytes before i (i + 1) at p (at + read) after q
  made_one tags bytes before i at read p after q h e d = record {
    read = one_read t tags bytes i at read h e;
    took = subst (λ (l : List ℕ). Took l before (4 * i) p after q) (one_numbers t tags bytes i at h) d;
  }

  pub made_join : {tags bytes before between after : List ℕ} {a b c at mid end p q r : ℕ} → a ≤ b → b ≤ c → b ≤ length tags → p < m
      → Made t Took tags bytes before a b at p mid between q → Made t Took tags bytes between b c mid q end after r
      → Made t Took tags bytes before a c at p end after r
  made_join {tags} {bytes} {before} {between} {after} {a} {b} {c} {at} {mid} {end} {p} {q} {r} h k n hp x y =
      let xs : List ℕ = stored t (slice a b tags) (drop at bytes) in
      let ys : List ℕ = stored t (slice b c tags) (drop mid bytes) in
      let second : Took ys between (4 * a + length xs) q after r =
      subst (λ (j : ℕ). Took ys between j q after r) (sym (stored_place t tags bytes a b at h n)) y.took in
      record {
        read = len_join t tags bytes a b c at mid end h k n x.read y.read;
        took = subst (λ (l : List ℕ). Took l before (4 * a) p after r) (sym (stored_join t tags bytes a b c at mid h k n x.read))
            (laws.join xs ys before between after (4 * a) p q r hp x.took second);
      }

  -- a run over a scratch, which has the same numbers at 0 as the data at `at`
  pub made_moved : (tags bytes scratch : List ℕ) (a b at : ℕ) → stored t (slice a b tags) scratch ≡ stored t (slice a b tags) (drop at bytes)
      → {before after : List ℕ} {p end q : ℕ} → Made t Took tags scratch before a b 0 p end after q → Made t Took tags bytes before a b at p (at + end) after q
  made_moved tags bytes scratch a b at same {before} {after} {p} {end} {q} x = record {
    read = ap (λ (n : ℕ). at + n) (x.read ∙ zero-add (data_len t (slice a b tags)));
    took = subst (λ (l : List ℕ). Took l before (4 * a) p after q) same x.took;
  }

  -- a run leaves as much room as there was
  pub made_room : {E : Type 0} (f : E → ℕ) {tags bytes : List ℕ} (old new : List E) {a b at p end q : ℕ} (n : ℕ)
      → Made t Took tags bytes (map f old) a b at p end (map f new) q → Fits (length old) n → Fits (length new) n
  made_room f {tags} {bytes} old new {a} {b} {at} {p} {end} {q} n x h =
      let same : length (map f new) ≡ length (map f old) =
      laws.keeps (stored t (slice a b tags) (drop at bytes)) (map f old) (4 * a) p (map f new) q x.took in
      subst (λ (j : ℕ). Fits j n) (sym (sym (length-map new f) ∙ same ∙ length-map old f)) h

  pub record Running (tags bytes before : List ℕ) (from to at p i read : ℕ) (values : List ℕ) (last : ℕ) : Type 0 where
    pub way : Underway t tags bytes from to at i read
    pub room : Fits (length values) to
    pub start : p < m
    pub made : Made t Took tags bytes before from i at p read values last

  pub running_start : {tags bytes before : List ℕ} {from to at p : ℕ} → Windows t tags bytes from to at → Fits (length before) to → p < m
      → Running tags bytes before from to at p from at before p
  running_start {tags} {bytes} {before} {from} {to} {at} {p} w h hp = record {
    way = underway_start t w;
    room = h;
    start = hp;
    made = made_none tags bytes before from at p hp;
  }

  -- a part of the run done, up to j
  pub running_part : {tags bytes before values values' : List ℕ} {from to at p i read last : ℕ} (j end last' : ℕ)
      → Running tags bytes before from to at p i read values last
      → i ≤ j → j ≤ to → Made t Took tags bytes values i j read last end values' last' → Running tags bytes before from to at p j end values' last'
  running_part {tags} {bytes} {before} {values} {values'} {from} {to} {at} {p} {i} {read} {last} j end last' r h hj x =
      let same : length values' ≡ length values =
      laws.keeps (stored t (slice i j tags) (drop read bytes)) values (4 * i) last values' last' x.took in
      record {
        way = further t j end r.way h hj x.read;
        room = subst (λ (n : ℕ). Fits n to) (sym same) r.room;
        start = r.start;
        made = made_join r.way.forward h (omega (arith, r.way.inside, r.way.windows.tags_there)) r.start r.made x;
      }

  -- one group more
  pub running_next : {tags bytes before values : List ℕ} {from to at p i read last : ℕ} (n : ℕ) (values' : List ℕ) (last' : ℕ)
      → Running tags bytes before from to at p i read values last → i < to → n ≡ total (widths t (get_or tags i 0))
      → Took (numbers (widths t (get_or tags i 0)) (drop read bytes)) values (4 * i) last values' last'
      → Running tags bytes before from to at p (i + 1) (read + n) values' last'
  running_next {tags} {bytes} {before} {values} {from} {to} {at} {p} {i} {read} {last} n values' last' r h e d =
      running_part (i + 1) (read + n) last' r (omega arith) (omega arith)
      (made_one tags bytes values i read n last values' last' (omega (arith, r.way.windows.tags_there)) e d)

  -- the same counted from the run's first group
  pub running_from : {tags bytes before : List ℕ} {from to at p : ℕ} → Windows t tags bytes from to at → Fits (length before) to → p < m
      → Running tags bytes before from to at p (from + 0) at before p
  running_from {tags} {bytes} {before} {from} {to} {at} {p} w h hp = rw (add-zero from) (running_start w h hp)

  pub running_step : {tags bytes before values : List ℕ} {from to at p read last : ℕ} (base k n : ℕ) (values' : List ℕ) (last' : ℕ)
      → Running tags bytes before from to at p (base + k) read values last → base + k < to → n ≡ total (widths t (get_or tags (base + k) 0))
      → Took (numbers (widths t (get_or tags (base + k) 0)) (drop read bytes)) values (4 * (base + k)) last values' last'
      → Running tags bytes before from to at p (base + (k + 1)) (read + n) values' last'
  running_step {tags} {bytes} {before} {values} {from} {to} {at} {p} {read} {last} base k n values' last' r h e d =
      subst (λ (j : ℕ). Running tags bytes before from to at p j (read + n) values' last') (add_assoc base k 1) (running_next n values' last' r h e d)

  pub running_done : {tags bytes before values : List ℕ} {from to at p i read last : ℕ} → Running tags bytes before from to at p i read values last → to ≤ i
      → Made t Took tags bytes before from to at p read values last
  running_done {tags} {bytes} {before} {values} {from} {to} {at} {p} {i} {read} {last} r h =
      let e : i ≡ to = omega (arith, r.way.inside) in
      subst (λ (n : ℕ). Made t Took tags bytes before from n at p read values last) e r.made
