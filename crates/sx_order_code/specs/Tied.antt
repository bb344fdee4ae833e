-- What is judged of a part of a tree takes as many nodes as the part has places.
use Rattle.std.specs.Prelude.{◌≡◌, ℕ, suc, ◌<◌, List, Option, Some, None, length}
use Rattle.sx_tree.specs.Nodes.{Places, PartNodes}
use Rattle.sx_calls.specs.Parts.{JudgedExpr, JudgedLink, JudgedArgument, JudgedPart, JudgedStatement, JudgedElse, own_nodes_of}
use Rattle.sx_order.specs.Parts.{SpansExpr, SpansPart, SpansStatement, SpanStatements, SpansElse}

-- a name alone is one node
abbrev pub IsOneIf : Option ℕ → ℕ → Type 0
IsOneIf None n = Unit {0}
IsOneIf (Some x) n = n ≡ 1

abbrev pub TiedExpr : JudgedExpr → Places → Type 0
TiedExpr e ps = SpansExpr (length ps) e × IsOneIf e.name (length ps)

abbrev pub TiedForm : (ℕ → JudgedExpr) → (ℕ → Places) → Type 0
TiedForm e ps = (site start : ℕ) → TiedExpr (e site) (ps start)

abbrev pub TiedClosure : JudgedExpr → Places → Type 0
TiedClosure c ps = TiedExpr c ps × (0 < length ps)

abbrev pub TiedLink : JudgedLink → Places → Type 0
TiedLink l ps = SpansExpr (length ps) l.operand

abbrev pub TiedArgument : JudgedArgument → Places → Type 0
TiedArgument a ps = (k : ℕ) × (length ps ≡ suc k) × SpansExpr k a.value

-- a part behind an operand has nodes of its own, which start at the operand, and nodes in it
abbrev pub TiedPart : JudgedPart → PartNodes → Type 0
TiedPart p ps = ((start : ℕ) → length (ps.own start) ≡ own_nodes_of p) × SpansPart (length ps.inner) p

abbrev pub TiedStatement : JudgedStatement → Places → Type 0
TiedStatement s ps = SpansStatement (length ps) s

abbrev pub TiedStatementForm : (ℕ → JudgedStatement) → (ℕ → Places) → Type 0
TiedStatementForm s ps = (site start : ℕ) → TiedStatement (s site) (ps start)

abbrev pub TiedLocal : (ℕ → JudgedStatement) → Places → Type 0
TiedLocal s ps = (site : ℕ) → TiedStatement (s site) ps

abbrev pub TiedBlock : List JudgedStatement → Places → Type 0
TiedBlock ss ps = (k : ℕ) × (length ps ≡ suc k) × SpanStatements k ss

-- an expression that may stand there
abbrev pub SpansOptional : ℕ → Option JudgedExpr → Type 0
SpansOptional n None = n ≡ 0
SpansOptional n (Some e) = SpansExpr n e

abbrev pub TiedElse : JudgedElse → Places → Type 0
TiedElse e ps = SpansElse (length ps) e
