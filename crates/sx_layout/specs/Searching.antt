-- A search from a structure, through those whose words aren't told.
use Rattle.std.specs.Prelude.{◌≡◌, ◌⊎◌, ℕ, ◌+◌, Bool, true, false, List, [], ◌∷◌, ◌++◌, length, slice_get, slice_set, Option, Some, None}
use Rattle.std.specs.List.{sum_by}
use Rattle.sx_types.specs.declared.types.Structure.{Structure}
use Rattle.sx_types.specs.declared.types.Ty.{Ty}
use Rattle.sx_types.specs.declared.types.Ty.TheVariants.{Struct}
use Rattle.sx_layout.specs.Holding.{HoldsDirectly, Holds}

-- structure k is marked
abbrev pub IsMarked : List Bool → ℕ → Type 0
IsMarked marks k = slice_get marks k ≡ Some true

-- the words of structure k aren't told
abbrev pub IsUntold : List (Option ℕ) → ℕ → Type 0
IsUntold widths k = slice_get widths k ≡ Some None

-- it is in the list
abbrev pub IsListed : List ℕ → ℕ → Type 0
IsListed list k = (n : ℕ) × (slice_get list n ≡ Some k)

-- those that structure k holds itself are marked
abbrev pub IsThrough : List Structure → List (Option ℕ) → List Bool → ℕ → Type 0
IsThrough structures widths marks k = (j : ℕ) → HoldsDirectly structures k j → IsUntold widths j → IsMarked marks j

-- what is marked is held by the root, and the root and what is marked are open or through
pub record IsSearch (structures : List Structure) (widths : List (Option ℕ)) (root : ℕ) (marks : List Bool) (opened : List ℕ) : Type 0 where
  pub many : length marks ≡ length structures
  pub held : (k : ℕ) → IsMarked marks k → Holds structures root k
  pub opens : (k : ℕ) → IsListed opened k → (k ≡ root) ⊎ IsMarked marks k
  pub root_through : IsListed opened root ⊎ IsThrough structures widths marks root
  pub through : (k : ℕ) → IsMarked marks k → IsListed opened k ⊎ IsThrough structures widths marks k

-- each turn of the search leaves less to do
abbrev pub turns_left : Bool → ℕ
turns_left true = 0
turns_left false = 1

abbrev pub left_to_search : List Bool → List ℕ → ℕ
left_to_search marks opened = sum_by turns_left marks + length opened

-- ---- a stored property of this type
-- its structure is marked, where its words aren't told
abbrev pub IsPartMarked : List (Option ℕ) → List Bool → Option Ty → Type 0
IsPartMarked widths marks ty = (j : ℕ) → ty ≡ Some (Struct j) → IsUntold widths j → IsMarked marks j

-- its structure is this one, which isn't marked
abbrev pub IsPartUnmarked : List Bool → Option Ty → ℕ → Type 0
IsPartUnmarked marks ty j = (ty ≡ Some (Struct j)) × (slice_get marks j ≡ Some false)

-- what it leaves
abbrev pub MarksPart : List (Option ℕ) → Option Ty → List Bool → List ℕ → List Bool → List ℕ → Type 0
MarksPart widths ty marks opened marks_after opened_after =
    ((marks_after ≡ marks) × (opened_after ≡ opened) × IsPartMarked widths marks ty)
    ⊎ ((j : ℕ) × IsPartUnmarked marks ty j × (marks_after ≡ slice_set marks j true) × (opened_after ≡ opened ++ j ∷ []))
