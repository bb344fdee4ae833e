-- What a text is refused by, of its names and types, has its places in the text.
use Rattle.std.specs.Prelude.{◌≡◌, ℕ, List, Some, Err}
use Rattle.sx_tree.specs.declared.tree.Tree.{Tree}
use Rattle.sx_scope.specs.declared.stop.TypeStop.{TypeStop}
use Rattle.sx_scope.specs.declared.stop.TypeStop.TheVariants.{Typing, TooWide, Late, NoMemory}
use Rattle.sx_check_decl.specs.Program.{Checked}
use Rattle.sx_driver.specs.declared.fault.Fault.{Fault}
use Rattle.sx_driver.specs.Faults.{HasTree, IsPlacedType, told}

-- A fault is told of the tree, and its places lie in the text.
pub record IsToldIn (text : List ℕ) (tree : Tree) (stop : TypeStop) : Type 0 where
  pub fault : Fault
  pub told_so : told tree stop ≡ Some fault
  pub placed : IsPlacedType text fault

abbrev pub IsTold : List ℕ → Tree → TypeStop → Type 0
IsTold text tree (Typing kind n) = IsToldIn text tree (Typing kind n)
IsTold text tree (TooWide n) = IsToldIn text tree (TooWide n)
IsTold text tree (Late at global) = IsToldIn text tree (Late at global)
IsTold text tree NoMemory = Unit {0}

-- Whatever the tree of a text is refused by, but for want of memory, is told in the text.
abbrev pub FaultsAreTold : Type 0
FaultsAreTold = (text : List ℕ) (tree : Tree) (stop : TypeStop) → HasTree text tree → Checked tree (Err stop) → IsTold text tree stop
