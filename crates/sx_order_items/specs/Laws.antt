-- The laws of order, of whole programs.
use Rattle.std.specs.Prelude.{◌≡◌, ◌≤◌, ◌<◌, List, length, All}
use Rattle.sx_tree.specs.declared.tree.Tree.{Tree}
use Rattle.sx_tree.specs.Nodes.{all_places}
use Rattle.sx_typed.specs.declared.program.Function.{Function}
use Rattle.sx_typed.specs.Functions.{RiseByNode}
use Rattle.sx_scope.specs.declared.stop.TypeStop.{TypeStop}
use Rattle.sx_scope.specs.declared.walk.Walk.{Walk}
use Rattle.sx_scope.specs.Verdict.{Verdict, typed, fails, failing}
use Rattle.sx_check_decl.specs.declared.items.Program.{Program}
use Rattle.sx_check_decl.specs.declared.items.Settled.{Settled}
use Rattle.sx_check_decl.specs.Checked.{IsSettled}
use Rattle.sx_check_decl.specs.Looks as looks
use Rattle.sx_check_decl.specs.Special.{own_names, special_names}
use Rattle.sx_order.specs.Order.{Rising, number_of}
use Rattle.sx_order_items.specs.Below.{ProgramBelow}
use Rattle.sx_order_items.specs.Written.{NoInitialisers}

-- the tree is judged so, by what its declarations settle to
pub record IsJudged (tree : Tree) (v : Verdict Program) : Type 0 where
  pub settled : Settled
  pub is_settled : IsSettled (special_names tree.names.items) tree.items settled
  pub judged : looks.judged settled (own_names tree.names.items) tree.items ≡ v

-- In walking order the numbers of the failing nodes of a tree rise, and each is one of the tree's nodes.
abbrev pub FailingNodesRise : Type 0
FailingNodesRise = (tree : Tree) (v : Verdict Program) → NoInitialisers tree.items → IsJudged tree v → Rising 0 (length (all_places tree.items)) (failing v)

-- The first failing node is a node of the tree, and no other has a lesser number.
abbrev pub FirstIsLeast : Type 0
FirstIsLeast =
    (tree : Tree) (f : TypeStop) (fs : List TypeStop) (w : Walk)
    → NoInitialisers tree.items
    → IsJudged tree (fails f fs w)
    → (number_of f < length (all_places tree.items)) × All (λ g. number_of f ≤ number_of g) fs

-- The functions of a typed program stand in the order of their nodes, and each node is one of the tree's.
abbrev pub FunctionsRiseByNode : Type 0
FunctionsRiseByNode =
    (tree : Tree) (p : Program) (w : Walk)
    → NoInitialisers tree.items
    → IsJudged tree (typed p w)
    → RiseByNode w.literals × All (λ (f : Function). f.node.0 < length (all_places tree.items)) w.literals

-- Where a program is typed, the statements of its outermost level start, and its stored globals are declared, at nodes of the tree.
abbrev pub ProgramsKeepNodes : Type 0
ProgramsKeepNodes =
    (tree : Tree) (p : Program) (w : Walk) → NoInitialisers tree.items → IsJudged tree (typed p w) → ProgramBelow (length (all_places tree.items)) p
