-- How many nodes a visit of a part of a tree counts.
use Rattle.std.specs.Prelude.{◌≡◌, ℕ, ◌+◌, ◌<◌, List, [], ◌∷◌, length}
use Rattle.sx_tree.specs.Nodes.{PartNodes, Places}
use Rattle.sx_outline.specs.Visit.{Visited, Visiting, Finding, PartVisit}

abbrev pub Counts : ℕ → Visiting → Type 0
Counts n f = (v : Visited) → (f v).next ≡ n + v.next

-- of a part that tells something
abbrev pub Finds : {A : Type 0} → ℕ → Finding A → Type 0
Finds n f = (v : Visited) → (f v).1.next ≡ n + v.next

-- so many nodes in all are counted by these, one after another
abbrev pub AllCount : ℕ → List Visiting → Type 0
AllCount n [] = n ≡ 0
AllCount n (f ∷ fs) = (k : ℕ) × (j : ℕ) × (n ≡ k + j) × Counts k f × AllCount j fs

abbrev pub AllFind : {A : Type 0} → ℕ → List (Finding A) → Type 0
AllFind n [] = n ≡ 0
AllFind n (f ∷ fs) = (k : ℕ) × (j : ℕ) × (n ≡ k + j) × Finds k f × AllFind j fs

-- ---- beside the places of the same part; where it starts doesn't count
abbrev pub FormsCount : (ℕ → Places) → Visiting → Type 0
FormsCount p f = (start : ℕ) → Counts (length (p start)) f

-- what stands behind an operand: its own nodes, and those in it
pub record PartsCount (p : PartNodes) (f : PartVisit) : Type 0 where
  pub own : (start : ℕ) → length (p.own start) ≡ f.own
  pub inner : Counts (length p.inner) f.inner

-- a closure literal, which has a node itself
pub record ClosureCount (p : Places) (f : Visiting) : Type 0 where
  pub some : 0 < length p
  pub counts : Counts (length p) f
