-- Tables by names, each name once.
use Rattle.std.specs.Prelude.{ℕ, nat_eq, List, [], ◌∷◌, ◌++◌, Option, Some, None}
use Rattle.std.specs.Map.{lookup}

-- what stands at the name
abbrev pub entry : {A : Type 0} → List (ℕ × A) → ℕ → Option A
entry es x = lookup (nat_eq x) es

abbrev pub unless_there : {A : Type 0} → Option A → ℕ → A → List (ℕ × A) → List (ℕ × A)
unless_there None x a es = es ++ (x, a) ∷ []
unless_there (Some b) x a es = es

-- with one more at the end, unless there is one at the name
abbrev pub with_entry : {A : Type 0} → ℕ → A → List (ℕ × A) → List (ℕ × A)
with_entry x a es = unless_there (entry es x) x a es
