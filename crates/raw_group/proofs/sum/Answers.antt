-- `sum` meets its contract: each call of the closure adds one number more.
use Rattle.std.proofs.Common.{map, rules, subst, ◌≡◌, ◌∙◌}
use Rattle.std.proofs.lemmas.List.{map-append}
use Rattle.std.proofs.lemmas.Fn.{fold_over, slice_gives, fronts}
use Rattle.packed.specs.Format.{wrapping_sum}
use Rattle.packed.proofs.Loops.{sum_start, sum_next}
use Rattle.raw_group.proofs.sum.Goals as goal

pub returns : goal.returns
returns g c =
    let e = g.E.Elem in
    subst (λ l. e.number c.fold.result ≡ wrapping_sum e.modulus (map e.number l)) c.iter.ensures.rest
    (fold_over fronts (λ y. y.now) _ (λ ys a. e.number a ≡ wrapping_sum e.modulus (map e.number ys)) _
    (λ ys a x b f' j k. let next = sum_next e.modulus (map e.number ys) (e.number a) (e.number x.now) j in rw map-append (search rules))
    _ _ _ _ (slice_gives c.iter.result) (c.zero.ensures ∙ sum_start e.modulus) c.fold.ensures.ran)
