-- The three coders' tables have four widths, from the narrowest to the widest. Assumes nothing.
use mathlib.Core.Path.{refl}
use Rattle.packed.specs.Format.{t1234, t0124, t1248}
use Rattle.packed.proofs.Ends.{Table}

abbrev pub table1234 : Table t1234
table1234 = record { four = refl; first = tt; last = tt }

abbrev pub table0124 : Table t0124
table0124 = record { four = refl; first = tt; last = tt }

abbrev pub table1248 : Table t1248
table1248 = record { four = refl; first = tt; last = tt }
