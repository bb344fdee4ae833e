-- Parts one after another take as many nodes as they have places together.
use Rattle.std.proofs.Common.{ℕ, List, [], ◌∷◌, map, length, length-append, refl}
use Rattle.sx_tree.specs.Nodes.{Places, all}
use Rattle.sx_scope.specs.Verdict.{Judging}
use Rattle.sx_order.specs.Order.{Takes, Anywhere, AllTake}

pub all-take : {A X : Type 0} (places : X → Places) (one : X → Judging A) → ((x : X) → Takes (length (places x)) Anywhere (one x)) →
    (xs : List X) → AllTake (length (all (map places xs))) (map one xs)
all-take places one h [] = refl
all-take places one h (x ∷ xs) =
    let k : ℕ = length (places x) in
    let j : ℕ = length (all (map places xs)) in
    (k, j, length-append (places x) (all (map places xs)), h x, all-take places one h xs)
