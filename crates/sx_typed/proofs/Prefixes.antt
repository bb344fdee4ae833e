-- Prefixes of lists of fields: the test, and paths that part.
use Rattle.std.proofs.Common.{◌≡◌, ◌≢◌, ℕ, nat_eq, List, [], ◌∷◌, ◌++◌, IsTrue, arith, refl}
use Rattle.std.specs.List.{starts_with}
use Rattle.std.proofs.lemmas.Grind.{common_steps}
use Rattle.sx_typed.specs.Storage.{IsPrefix}

pub prefix_of : (xs ys : List ℕ) → IsTrue (starts_with nat_eq ys xs) → IsPrefix xs ys
prefix_of [] ys h = (ys, refl)
prefix_of (x ∷ xs) [] h = grind arith
prefix_of (x ∷ xs) (y ∷ ys) h =
    let below : IsPrefix xs ys = prefix_of xs ys (grind (arith, common_steps)) in
    let first : x ≡ y = grind (arith, common_steps) in
    (below.0, cc)

pub starts : (xs rest : List ℕ) → IsTrue (starts_with nat_eq (xs ++ rest) xs)
starts [] rest = refl
starts (x ∷ xs) rest = grind (arith, common_steps, starts xs rest)

pub parted : (common : List ℕ) (f g : ℕ) (more rest tail : List ℕ) → f ≢ g → common ++ g ∷ rest ≡ (common ++ f ∷ more) ++ tail → ⊥
parted [] f g more rest tail n e = n cc
parted (c ∷ cs) f g more rest tail n e = parted cs f g more rest tail n cc
