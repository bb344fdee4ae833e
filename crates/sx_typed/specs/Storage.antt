-- When two accesses conflict, as Swift defines it: The Swift Programming Language, "Memory Safety", and for the roots
-- at which this is decided while the program runs SE-0176, "Enforce Exclusive Access to Memory".
use Rattle.std.specs.Prelude.{◌≡◌, ◌≢◌, ◌⊎◌, ℕ, false, List, ◌∷◌, ◌++◌, IsTrue, ⊤}
use Rattle.sx_typed.specs.declared.storage.Root.{Root}
use Rattle.sx_typed.specs.declared.storage.Root.TheVariants.{Global, Property, Boxed, Local, InOut, Temp}
use Rattle.sx_typed.specs.declared.storage.Access.{Access}

-- the roots whose accesses are compared while the program runs
abbrev pub IsDynamic : Root → Type 0
IsDynamic (Global g) = ⊤
IsDynamic (Property object p) = ⊤
IsDynamic (Boxed n) = ⊤
IsDynamic (Local n) = ⊥
IsDynamic (InOut n) = ⊥
IsDynamic (Temp n) = ⊥

-- a variable holds all those whose fields go on from its own
abbrev pub IsPrefix : List ℕ → List ℕ → Type 0
IsPrefix fields longer = (rest : List ℕ) × (longer ≡ fields ++ rest)

-- one of the two variables holds the other
abbrev pub Overlap : List ℕ → List ℕ → Type 0
Overlap fields others = IsPrefix fields others ⊎ IsPrefix others fields

abbrev pub Conflicts : Access → Access → Type 0
Conflicts a b = (a.root ≡ b.root) × (IsTrue a.modifies ⊎ IsTrue b.modifies) × (IsDynamic a.root ⊎ Overlap a.fields b.fields)

abbrev pub ConflictBothWays : Type 0
ConflictBothWays = (a b : Access) → Conflicts a b → Conflicts b a

abbrev pub ReadsAgree : Type 0
ReadsAgree = (a b : Access) → a.modifies ≡ false → b.modifies ≡ false → ¬ Conflicts a b

-- one path up to a place where two different fields follow
pub record Part (fields others : List ℕ) : Type 0 where
  pub common : List ℕ
  pub field : ℕ
  pub other : ℕ
  pub more : List ℕ
  pub rest : List ℕ
  pub path : fields ≡ common ++ field ∷ more
  pub other_path : others ≡ common ++ other ∷ rest
  pub differ : field ≢ other

abbrev pub PartedFieldsAgree : Type 0
PartedFieldsAgree = (a b : Access) → ¬ IsDynamic a.root → Part a.fields b.fields → ¬ Conflicts a b
