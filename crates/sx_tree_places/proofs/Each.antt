-- What holds of each place in lists of places that are put together.
use Rattle.std.proofs.Common.{ℕ, List, [], ◌∷◌, ◌++◌, map, Option, Some, None}
use Rattle.sx_tree.specs.Nodes.{Places, all, option_places}

abbrev pub Each : {X : Type 0} → (X → Type 0) → List X → Type 0
Each Q [] = Unit {0}
Each Q (x ∷ xs) = Q x × Each Q xs

abbrev pub IfThere : {X : Type 0} → (X → Type 0) → Option X → Type 0
IfThere Q None = Unit {0}
IfThere Q (Some x) = Q x

module _ (P : ℕ → Type 0) where
  pub each_append : (xs ys : Places) → Each P xs → Each P ys → Each P (xs ++ ys)
  each_append [] ys h k = k
  each_append (x ∷ xs) ys (h, hs) k = (h, each_append xs ys hs k)

  pub each_all : {X : Type 0} (Q : X → Type 0) (f : X → Places) → ((x : X) → Q x → Each P (f x)) → (xs : List X) → Each Q xs → Each P (all (map f xs))
  each_all Q f h [] k = tt
  each_all Q f h (x ∷ xs) (k, ks) = each_append (f x) (all (map f xs)) (h x k) (each_all Q f h xs ks)

  pub each_option : {X : Type 0} (Q : X → Type 0) (f : X → Places) → ((x : X) → Q x → Each P (f x)) → (o : Option X) → IfThere Q o → Each P (option_places f o)
  each_option Q f h None k = tt
  each_option Q f h (Some x) k = h x k
