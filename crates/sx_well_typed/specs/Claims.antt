-- What may be claimed of the parts of a tree: that a part, where the walk stands before it, is this typed part, and where the
-- walk then stands behind it.
use Rattle.std.specs.Prelude.{ℕ, Bool, List, Option}
use Rattle.sx_span.specs.declared.places.Node.{Node}
use Rattle.sx_tree.specs.declared.code.Argument.{Argument}
use Rattle.sx_tree.specs.declared.code.Block.{Block}
use Rattle.sx_tree.specs.declared.code.Closure.{Closure}
use Rattle.sx_tree.specs.declared.code.Else.{Else}
use Rattle.sx_tree.specs.declared.code.Expr.{Expr}
use Rattle.sx_tree.specs.declared.code.ExprForm.{ExprForm}
use Rattle.sx_tree.specs.declared.code.Link.{Link}
use Rattle.sx_tree.specs.declared.code.Local.{Local}
use Rattle.sx_tree.specs.declared.code.Part.{Part}
use Rattle.sx_tree.specs.declared.code.Statement.{Statement}
use Rattle.sx_tree.specs.declared.code.StatementForm.{StatementForm}
use Rattle.sx_types.specs.declared.types.Ty.{Ty}
use Rattle.sx_typed.specs.declared.code.Expr.{Expr as TypedExpr}
use Rattle.sx_typed.specs.declared.code.Statement.{Statement as TypedStatement}
use Rattle.sx_scope.specs.declared.walk.Asked.{Asked}
use Rattle.sx_scope.specs.declared.walk.Callee.{Callee}
use Rattle.sx_scope.specs.declared.walk.Place.{Place}
use Rattle.sx_scope.specs.declared.walk.Use.{Use}
use Rattle.sx_scope.specs.declared.walk.Walk.{Walk}
use Rattle.sx_calls.specs.declared.passed.Passed.{Passed}
use Rattle.sx_calls.specs.declared.passed.Slot.{Slot}

pub data Claim : Type 0 where
  -- ---- expressions: at this place, where this is asked of it for this use
  -- an expression is `t`
  expression : Expr → Place → Asked → Use → Walk → TypedExpr → Walk → Claim
  -- an expression of this form, which starts at this site, is `t`
  form : ExprForm → ℕ → Place → Asked → Use → Walk → TypedExpr → Walk → Claim
  -- a closure literal is `t`
  closure : Closure → Place → Asked → Use → Walk → TypedExpr → Walk → Claim
  -- links behind the left operand `x` make `t` of it; their nodes are numbered from `start` on
  links : List Link → Place → ℕ → ℕ → TypedExpr → Walk → TypedExpr → Walk → Claim
  -- elements of an array behind those before are, with these, `ts`
  elements : List Expr → Place → List TypedExpr → Walk → List TypedExpr → Walk → Claim
  -- ---- calls
  -- an operand before arguments is what is called
  called : Expr → Place → ℕ → Walk → Callee → Walk → Claim
  -- the call of `f` with these arguments is `t`
  call : List Argument → Option Closure → Place → Asked → Node → ℕ → Callee → Walk → TypedExpr → Walk → Claim
  -- arguments for these slots, behind those that were passed, pass this
  arguments : List Argument → Option Closure → Place → List Slot → Passed → Walk → Passed → Walk → Claim
  -- indices for parameters of these types, behind those before, are with these `ts`
  indices : List Expr → Place → List Ty → List TypedExpr → Walk → List TypedExpr → Walk → Claim
  -- parts behind the operand `x`, which may be the word `self`, make `t` of it; their nodes are numbered from `start` on
  parts : List Part → Place → Asked → ℕ → ℕ → Bool → TypedExpr → Walk → TypedExpr → Walk → Claim
  -- ---- statements
  -- a statement is `t`
  statement : Statement → Place → Walk → TypedStatement → Walk → Claim
  -- a statement of this form, which starts at this site, is `t`
  statement_form : StatementForm → ℕ → Place → Walk → TypedStatement → Walk → Claim
  -- the declaration of a local, which starts at this site, is `t`
  local : Local → ℕ → Place → Walk → TypedStatement → Walk → Claim
  -- statements in a row, behind those before, are with these `ts`
  statements : List Statement → Place → List TypedStatement → Walk → List TypedStatement → Walk → Claim
  -- a block is `ts`
  block : Block → Place → Walk → List TypedStatement → Walk → Claim
  -- what follows the block of an `if` is `ts`
  otherwise : Else → Place → Walk → List TypedStatement → Walk → Claim
  -- the statements of a body are `ts`
  body : List Statement → Place → Walk → List TypedStatement → Walk → Claim
