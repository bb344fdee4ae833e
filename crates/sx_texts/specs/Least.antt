-- The fault of names and types that a text has stands at the failing node with the least number.
use Rattle.std.specs.Prelude.{◌≡◌, ℕ, ◌≤◌, ◌<◌, List, length, All, Some}
use Rattle.sx_span.specs.declared.places.Node.{Node}
use Rattle.sx_tree.specs.declared.tree.Tree.{Tree}
use Rattle.sx_tree.specs.Nodes.{all_places}
use Rattle.sx_scope.specs.declared.stop.TypeKind.{TypeKind}
use Rattle.sx_scope.specs.declared.stop.TypeStop.{TypeStop}
use Rattle.sx_scope.specs.declared.stop.TypeStop.TheVariants.{Typing}
use Rattle.sx_scope.specs.declared.walk.Walk.{Walk}
use Rattle.sx_scope.specs.Verdict.{fails}
use Rattle.sx_driver.specs.declared.fault.Fault.TheVariants as faults
use Rattle.sx_driver.specs.Faults.{HasTree, HasTypeFault, place_by_kind}
use Rattle.sx_order.specs.Order.{number_of}
use Rattle.sx_order_items.specs.Laws.{IsJudged}
use Rattle.sx_order_items.specs.Written.{NoInitialisers}

-- no text has a written initialiser in its tree
abbrev pub TextsHaveNoInitialisers : Type 0
TextsHaveNoInitialisers = (text : List ℕ) (tree : Tree) → HasTree text tree → NoInitialisers tree.items

-- A node of the text's tree fails, by this kind and with the fault at this place, and no failing node has a lesser number.
pub record IsLeast (text : List ℕ) (kind : TypeKind) (at : ℕ) : Type 0 where
  pub tree : Tree
  pub has : HasTree text tree
  pub node : Node
  pub others : List TypeStop
  pub walk : Walk
  pub judged : IsJudged tree (fails (Typing kind node) others walk)
  pub place : place_by_kind tree kind node ≡ Some at
  pub within : node.0 < length (all_places tree.items)
  pub least : All (λ g. node.0 ≤ number_of g) others

abbrev pub FirstFaultIsLeast : Type 0
FirstFaultIsLeast = (text : List ℕ) (kind : TypeKind) (at : ℕ) → HasTypeFault text (faults.Typing kind at) → IsLeast text kind at
