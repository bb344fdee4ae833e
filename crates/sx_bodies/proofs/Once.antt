-- Mentions of which each node counts once.
use Rattle.std.proofs.Common.{◌≡◌, ℕ, Bool, true, false, not, ◌||◌, cond, nat_eq, List, [], ◌∷◌, ◌++◌, map, refl, sym, ap, ◌∙◌}
use Rattle.std.specs.List.{list_any}
use Rattle.sx_typed.specs.declared.program.Mention.{Mention}
use Rattle.sx_bodies.specs.Literals.{number_of_mention, same_mention, with_first}

any_mapped : (p : ℕ → Bool) (ms : List Mention) → list_any p (map number_of_mention ms) ≡ list_any (λ m. p (number_of_mention m)) ms
any_mapped p [] = refl
any_mapped p (m ∷ ms) = ap (λ b. p (number_of_mention m) || b) (any_mapped p ms)

turned : {X : Type 0} (b : Bool) (x y : X) → cond b x y ≡ cond (not b) y x
turned true x y = refl
turned false x y = refl

-- whether a set of the nodes is new to a node tells whether the mention is added
first_by : (ms : List Mention) (m : Mention) (keys : List ℕ) (b : Bool) → keys ≡ map number_of_mention ms → b ≡ not (list_any (nat_eq (number_of_mention m)) keys) → with_first ms m ≡ cond b (ms ++ m ∷ []) ms
first_by ms m keys b are new =
    let among : list_any (same_mention m) ms ≡ list_any (nat_eq (number_of_mention m)) keys =
    sym (any_mapped (nat_eq (number_of_mention m)) ms) ∙ sym (ap (list_any (nat_eq (number_of_mention m))) are) in
    ap (λ c. cond c ms (ms ++ m ∷ [])) among ∙ turned (list_any (nat_eq (number_of_mention m)) keys) ms (ms ++ m ∷ []) ∙ sym (ap (λ c. cond c (ms ++ m ∷ []) ms) new)

pub gains : (ms after : List Mention) (m : Mention) (keys : List ℕ) (b : Bool) → keys ≡ map number_of_mention ms → b ≡ not (list_any (nat_eq (number_of_mention m)) keys) → b ≡ true → after ≡ ms ++ m ∷ [] → after ≡ with_first ms m
gains ms after m keys b are new yes_ more = more ∙ sym (first_by ms m keys b are new ∙ ap (λ c. cond c (ms ++ m ∷ []) ms) yes_)

pub keeps : (ms : List Mention) (m : Mention) (keys : List ℕ) (b : Bool) → keys ≡ map number_of_mention ms → b ≡ not (list_any (nat_eq (number_of_mention m)) keys) → b ≡ false → ms ≡ with_first ms m
keeps ms m keys b are new no_ = sym (first_by ms m keys b are new ∙ ap (λ c. cond c (ms ++ m ∷ []) ms) no_)
