-- The function types of a program, each once.
use Rattle.std.specs.Prelude.{◌≡◌, ◌⊎◌, ℕ, List, [], ◌∷◌, ◌++◌, Contains, slice_get, Some}
use Rattle.sx_types.specs.declared.types.FunctionType.{FunctionType}

-- a list and what it is with one more, which goes last unless it is in the list
abbrev pub Gains : List FunctionType → List FunctionType → FunctionType → Type 0
Gains before after t = (Contains before t × (after ≡ before)) ⊎ ((¬ Contains before t) × (after ≡ before ++ t ∷ []))

-- no two of them are equal
abbrev pub IsOnce : List FunctionType → Type 0
IsOnce types = (i j : ℕ) (t : FunctionType) → slice_get types i ≡ Some t → slice_get types j ≡ Some t → i ≡ j
