-- `store` meets its contract: by the laws of its loop.
use Rattle.std.proofs.Common.{◌≡◌, ℕ, ◌+◌, ◌-◌, ◌/◌, ◌%◌, ap, ◌∙◌, rules, arith, length, take, drop}
use native.Mathlib.Nat.{div-one, mod-eq_of_lt}
use Rattle.packed.proofs.Loops.{storing_start, storing_next, storing_done}
use Rattle.raw_group.proofs.store.Goals as goal

pub loop-byte-init : goal.loop-byte-init
loop-byte-init g c =
    let a = c.args in
    rw c.as_u64-rest.ensures (storing_start a.len (g.E.Elem.number a.value) _ (search rules))

pub loop-byte-preserved : goal.loop-byte-preserved
loop-byte-preserved g c =
    let rest : ℕ = c.loop-byte.rest in
    let low : c.byte.result ≡ rest % 256 = c.byte.ensures ∙ ap (λ (n : ℕ). n / 1 % 256) (mod-eq_of_lt (search rules)) ∙ ap (λ (n : ℕ). n % 256) (div-one rest) in
    rw low (storing_next c.loop-byte.invariant (search rules))

pub returns : goal.returns
returns g c =
    let a = c.args in
    let whole : length (take (a.at + a.len - a.at) (drop a.at a.output.now)) ≡ a.len = search rules in
    storing_done c.loop-byte.invariant (omega (arith, whole, c.loop-byte-test.false)) a.output.now a.at _ (omega arith) c.requires
