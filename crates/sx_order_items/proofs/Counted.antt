-- Ways to count the nodes of what is visited, beside the places of the same part.
use Rattle.std.proofs.Common.{◌≡◌, ℕ, List, [], ◌∷◌, ◌++◌, Some, length, length-append, map, refl, sym, subst, arith}
use Rattle.sx_tree.specs.Nodes as nodes
use Rattle.sx_outline.specs.Visit.{Visiting, PartVisit, all, counted, trailing}
use Rattle.sx_order_items.specs.Counts.{Counts, FormsCount, PartsCount, ClosureCount, AllCount}
use Rattle.sx_order_items.proofs.Visits.{all-counts}
use Rattle.sx_order.proofs.Places.{trailing-length}

-- ---- equations of a fold, used
pub counts-by : {p q : nodes.Places} {f g : Visiting} → p ≡ q → f ≡ g → Counts (length q) g → Counts (length p) f
counts-by {p = p} {g = g} a b h = subst (λ (f : Visiting). Counts (length p) f) (sym b) (subst (λ (r : nodes.Places). Counts (length r) g) (sym a) h)

pub forms-by : {p q : ℕ → nodes.Places} {f g : Visiting} → p ≡ q → f ≡ g → FormsCount q g → FormsCount p f
forms-by {p = p} {g = g} a b h = subst (λ (f : Visiting). FormsCount p f) (sym b) (subst (λ (r : ℕ → nodes.Places). FormsCount r g) (sym a) h)

pub parts-by : {p q : nodes.PartNodes} {f g : PartVisit} → p ≡ q → f ≡ g → PartsCount q g → PartsCount p f
parts-by {p = p} {g = g} a b h = subst (λ (f : PartVisit). PartsCount p f) (sym b) (subst (λ (r : nodes.PartNodes). PartsCount r g) (sym a) h)

pub closures-by : {p q : nodes.Places} {f g : Visiting} → p ≡ q → f ≡ g → ClosureCount q g → ClosureCount p f
closures-by {p = p} {g = g} a b h = subst (λ (f : Visiting). ClosureCount p f) (sym b) (subst (λ (r : nodes.Places). ClosureCount r g) (sym a) h)

pub trailing-counts : (p : nodes.Places) (f : Visiting) → ClosureCount p f → Counts (length (nodes.trailing (Some p))) (trailing (Some f))
trailing-counts p f h v = omega (arith, h.counts (counted 1 v), trailing-length p h.some)

-- ---- lists
pub all-count : {X : Type 0} (places : X → nodes.Places) (visit : X → Visiting) (ps : List ((x : X) × Counts (length (places x)) (visit x))) →
    AllCount (length (nodes.all (map places (map (λ p. p.0) ps)))) (map visit (map (λ p. p.0) ps))
all-count places visit [] = refl
all-count places visit (p ∷ ps) =
    let k : ℕ = length (places p.0) in
    let j : ℕ = length (nodes.all (map places (map (λ q. q.0) ps))) in
    (k, j, length-append (places p.0) (nodes.all (map places (map (λ q. q.0) ps))), p.1, all-count places visit ps)

pub list-counts : {X : Type 0} (places : X → nodes.Places) (visit : X → Visiting) (ps : List ((x : X) × Counts (length (places x)) (visit x))) →
    Counts (length (nodes.all (map places (map (λ p. p.0) ps)))) (all (map visit (map (λ p. p.0) ps)))
list-counts places visit ps = all-counts (map visit (map (λ p. p.0) ps)) (length (nodes.all (map places (map (λ p. p.0) ps)))) (all-count places visit ps)

pub two-counts : (p q : nodes.Places) (f g : Visiting) → Counts (length p) f → Counts (length q) g → Counts (length (p ++ q)) (λ v. g (f v))
two-counts p q f g h k v = omega (arith, h v, k (f v), length-append p q)

pub alike-lengths : {X Y Z : Type 0} (f : X → Y) (g : X → Z) (xs : List X) → length (map f xs) ≡ length (map g xs)
alike-lengths f g [] = refl
alike-lengths f g (x ∷ xs) = let rest : length (map f xs) ≡ length (map g xs) = alike-lengths f g xs in omega (arith, rest)
