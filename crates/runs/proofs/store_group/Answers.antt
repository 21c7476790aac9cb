-- `store_group` meets its contract: four stores.
use Rattle.std.proofs.Common.{List, ℕ, map, length, set, get_or, ◌+◌, ◌≡◌, arith, rules}
use Rattle.std.proofs.lemmas.List.{map-set, length-map}
use Rattle.std.proofs.lemmas.List.Edits.{sets}
use Rattle.packed.proofs.Fours.{four_stores}
use Rattle.elem.proofs.Elems.{number_at}
use Rattle.runs.proofs.store_group.Goals as goal

four_stored : {E : Type 0} (f : E → ℕ) (l g : List E) (at : ℕ) (p q r s : E) → length g ≡ 4
    → map f (set (set (set (set l at (get_or g 0 p)) (at + 1) (get_or g 1 q)) (at + 2) (get_or g 2 r)) (at + 3) (get_or g 3 s))
    ≡ sets (map f l) at (map f g)
four_stored f l g at p q r s four =
    rw (map-set, map-set, map-set, map-set, number_at f g 0 p (omega arith), number_at f g 1 q (omega arith), number_at f g 2 r (omega arith), number_at f g 3 s (omega arith))
    (four_stores (map f l) (map f g) at (rw length-map four))

pub returns : goal.returns
returns g c = four_stored g.E.Elem.number c.args.values.now c.args.group c.args.at _ _ _ _ (search rules)
