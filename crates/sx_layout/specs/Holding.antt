-- Which structures hold which.
use Rattle.std.specs.Prelude.{◌≡◌, ◌↔◌, ℕ, Bool, true, List, length, slice_get, Some}
use Rattle.sx_types.specs.declared.types.Field.{Field}
use Rattle.sx_types.specs.declared.types.Structure.{Structure}
use Rattle.sx_types.specs.declared.types.Ty.TheVariants.{Struct}

-- a stored property of structure i has the type structure j
abbrev pub HoldsDirectly : List Structure → ℕ → ℕ → Type 0
HoldsDirectly structures i j =
    (s : Structure) × (f : Field) × (n : ℕ) × (slice_get structures i ≡ Some s) × (slice_get s.stored n ≡ Some f) × (f.ty ≡ Some (Struct j))

-- structure i holds structure j in a stored property, or in one of those that it holds
pub data Holds (structures : List Structure) : ℕ → ℕ → Type 0 where
  directly : (i j : ℕ) → HoldsDirectly structures i j → Holds structures i j
  through : (i j k : ℕ) → HoldsDirectly structures i j → Holds structures j k → Holds structures i k

-- for each structure, whether it holds itself
abbrev pub TellHolders : List Structure → List Bool → Type 0
TellHolders structures told =
    (length told ≡ length structures) × ((k : ℕ) → (slice_get told k ≡ Some true) ↔ Holds structures k k)
