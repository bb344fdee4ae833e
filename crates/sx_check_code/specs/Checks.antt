-- What is told of code that is checked by itself.
use Rattle.std.specs.Prelude.{◌≡◌, ◌+◌, ℕ, List, Option, Some, None, Result, Ok, Err}
use Rattle.sx_span.specs.declared.places.Node.{Node}
use Rattle.sx_tree.specs.declared.code.Block.{Block}
use Rattle.sx_tree.specs.declared.code.Expr.{Expr}
use Rattle.sx_tree.specs.declared.code.Statement.{Statement}
use Rattle.sx_tree.specs.declared.declarations.Item.{Item}
use Rattle.sx_nodes.specs.declared.code.Code.TheVariants as code
use Rattle.sx_nodes.specs.Walks.{CodeAt}
use Rattle.sx_types.specs.declared.types.Ty.{Ty}
use Rattle.sx_typed.specs.declared.code.Expr.{Expr as TypedExpr}
use Rattle.sx_typed.specs.declared.code.Statement.{Statement as TypedStatement}
use Rattle.sx_scope.specs.declared.stop.TypeStop.{TypeStop}
use Rattle.sx_scope.specs.declared.stop.TypeStop.TheVariants.{Typing, TooWide, Late, NoMemory}
use Rattle.sx_scope.specs.declared.declarations.Declarations.{Declarations}
use Rattle.sx_scope.specs.declared.walk.Use.TheVariants as uses
use Rattle.sx_scope.specs.declared.walk.Walk.{Walk}
use Rattle.sx_scope.specs.Verdict.{Verdict, typed, depends, fails, failing}
use Rattle.sx_functions.specs.Places.{body_value}
use Rattle.sx_check_expr.specs.Judge.{judged_expr, judged_statement}
use Rattle.sx_order.specs.Order.{Rising}
use Rattle.sx_check_code.specs.declared.scope.Scope.{Scope}
use Rattle.sx_check_code.specs.Scopes.{asked_by, place_in, walk_in}

-- what stands at a node of a program
abbrev pub IsExpression : List Item → Node → Expr → Type 0
IsExpression is n e = CodeAt is n.0 (Some (code.Expression e))

abbrev pub IsBlock : List Item → Node → Block → Type 0
IsBlock is n b = CodeAt is n.0 (Some (code.Block b))

abbrev pub IsStatement : List Item → Node → Statement → Type 0
IsStatement is n s = CodeAt is n.0 (Some (code.Statement s))

-- what is judged of an expression, a body and a statement with this node, by what is declared and by what they see
abbrev pub expression : Declarations → Scope → Node → Expr → Option Ty → Verdict TypedExpr
expression d s n e t = (judged_expr d e).value (place_in s) (asked_by t) uses.Kept (walk_in s n.0)

abbrev pub body : Declarations → Scope → Node → Block → Verdict (List TypedStatement)
body d s n b = body_value d (place_in s) b (walk_in s n.0)

abbrev pub statement : Declarations → Scope → Node → Statement → Verdict TypedStatement
statement d s n t = (judged_statement d t).value (place_in s) (walk_in s n.0)

-- It is told what it is; none, exactly where no node in it fails and it depends on a declaration that has failed; or the first node
-- in it that fails.
abbrev pub Tells : {A : Type 0} → Result (Option A) TypeStop → Verdict A → Type 0
Tells (Ok (Some a)) v = (w : Walk) × (v ≡ typed a w)
Tells (Ok None) v = (w : Walk) × (v ≡ depends w)
Tells (Err (Typing kind n)) v = (fs : List TypeStop) × (w : Walk) × (v ≡ fails (Typing kind n) fs w)
Tells (Err (TooWide n)) v = (fs : List TypeStop) × (w : Walk) × (v ≡ fails (TooWide n) fs w)
Tells (Err (Late at global)) v = ⊥
Tells (Err NoMemory) v = Unit {0}

-- The nodes that fail rise from this one on, over so many: so the first has the least number.
abbrev pub FailInOrder : {A : Type 0} → Node → ℕ → Verdict A → Type 0
FailInOrder n count v = Rising n.0 (count + n.0) (failing v)
