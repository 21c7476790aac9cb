-- `scratch` meets its contract: a list put in the place of the first zeros.
use Rattle.std.proofs.Common.{List, ℕ, ◌≡◌, ◌≤◌, ◌-◌, ◌++◌, length, take, drop, replicate, sym, arith, zero-add}
use Rattle.std.proofs.lemmas.List.{length-drop, take_all}
use Rattle.std.proofs.lemmas.List.Edits.{sets, sets-eq}
use Rattle.stages.proofs.scratch.Goals as goal

put : (part rest zeros : List ℕ) (n : ℕ) → part ≡ take n rest → n ≡ length rest → n ≤ length zeros → part ++ drop n zeros ≡ sets zeros 0 rest
put part rest zeros n same e h = rw (sets-eq rest zeros 0 (omega arith), same, take_all n rest (omega arith), e, zero-add)

pub returns : goal.returns
returns c =
    let bytes : List ℕ = c.args.«data».now in
    put c.copy_from_slice.new.self (drop c.args.read bytes) (replicate 64 0) (length bytes - c.args.read)
    c.copy_from_slice.ensures.after (sym (length-drop c.args.read bytes)) (omega arith)
