-- The three coders as instances: each theorem of this crate holds at each of them, with its table, its modulus and what is asked of a
-- table. Assumes nothing.
use mathlib.Core.Path.{◌≡◌, refl}
use mathlib.Core.List.{List}
use Prim.Native.Nat.{ℕ}
use lib.Dec.{T}
use Rattle.packed.specs.Format.{t1234, t0124, t1248, m32, m64}
use Rattle.packed.proofs.Coders.{table1234, table0124, table1248}
use Rattle.packed.proofs.Ends.{Table}
use Rattle.packed.proofs.Widths.{top}
use Rattle.theorems.proofs.Tightness.{rising}

pub record Coder (t : List ℕ) (m : ℕ) : Type 0 where
  pub table : Table t
  pub rises : T (rising t)
  pub modulus : top t ≡ m

pub coder1234 : Coder t1234 m32
coder1234 = record { table = table1234; rises = tt; modulus = refl }

pub coder0124 : Coder t0124 m32
coder0124 = record { table = table0124; rises = tt; modulus = refl }

pub coder1248 : Coder t1248 m64
coder1248 = record { table = table1248; rises = tt; modulus = refl }
