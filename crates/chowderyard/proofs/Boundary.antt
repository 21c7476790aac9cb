-- A call's promise, handed on from the coder's answer to the struct of numbers; and that a position is one of four.
-- Assumes nothing.
use mathlib.Core.Path.{◌≡◌, ap, ◌∙◌, subst, sym}
use mathlib.Core.Bool.{Bool, true, false}
use mathlib.Core.List.{List}
use Prim.Native.Nat.{ℕ, zero, suc, ◌*◌, ◌/◌, ◌%◌, ◌<◌}
use native.Mathlib.Omega.{arith}
use lib.Dec.{eqb}
use lib.ListN.{length}
use Rattle.packed.specs.Format.{pick, column_widths}
use Rattle.packed.specs.Refusals.{lent_to_read, first_of, tightness_rows}
use Rattle.packed.specs.Calls.{Answer, Encoded, Decoded, Tightness, encoded, decoded, unless_refused, untested, tight, loose, testing, tight_run, tightness_of}
use Rattle.chowderyard.specs.Boundary.{position_of}

pub handed_encoded : {a b : Answer} {tags bytes : List ℕ} {e : Encoded} → a ≡ b → encoded b tags bytes ≡ e → encoded a tags bytes ≡ e
handed_encoded {a} {b} {tags} {bytes} same is = ap (λ (x : Answer). encoded x tags bytes) same ∙ is

pub handed_decoded : {a b : Answer} {values : List ℕ} {d : Decoded} → a ≡ b → decoded b values ≡ d → decoded a values ≡ d
handed_decoded {a} {b} {values} same is = ap (λ (x : Answer). decoded x values) same ∙ is

-- of each outcome: a position is the rest of a division by four
of_found : (b : Bool) (run : ℕ) → position_of (pick b tight (loose (run / 4) (run % 4))) < 4
of_found true run = omega arith
of_found false run = omega arith

of_refused : (n k : ℕ) (x : Tightness) → position_of x < 4 → position_of (unless_refused n x (untested k)) < 4
of_refused zero k x small = small
of_refused (suc n) k x small = omega arith

position_small : (t tags bytes : List ℕ) → position_of (testing t tags bytes) < 4
unfolding testing tightness_of
position_small t tags bytes =
    let refusal : ℕ = first_of t (lent_to_read tags (length bytes)) tightness_rows in
    let run : ℕ = tight_run t (column_widths t tags) bytes in
    of_refused refusal refusal (tightness_of t tags bytes) (of_found (eqb run (4 * length tags)) run)

pub small : (t tags bytes : List ℕ) {x : Tightness} → x ≡ testing t tags bytes → position_of x < 4
small t tags bytes is = subst (λ (y : Tightness). position_of y < 4) (sym is) (position_small t tags bytes)
