-- In what order the nodes fail of code that is checked by itself.
use Rattle.std.proofs.Common.{Option, length, refl}
use Rattle.sx_span.specs.declared.places.Node.{Node}
use Rattle.sx_tree.specs.declared.code.Block.{Block}
use Rattle.sx_tree.specs.declared.code.Expr.{Expr}
use Rattle.sx_tree.specs.declared.code.Statement.{Statement}
use Rattle.sx_tree.specs.Nodes.{block_places, expr_places, statement_places}
use Rattle.sx_types.specs.declared.types.Ty.{Ty}
use Rattle.sx_scope.specs.declared.declarations.Declarations.{Declarations}
use Rattle.sx_scope.specs.declared.walk.Use.TheVariants as uses
use Rattle.sx_functions.specs.Places.{body_value}
use Rattle.sx_check_expr.specs.Judge.{judged_expr, judged_statement}
use Rattle.sx_order.specs.Order.{Anywhere, Within}
use Rattle.sx_order_code.specs.Code.{CodeSpans}
use Rattle.sx_check_code.specs.declared.scope.Scope.{Scope}
use Rattle.sx_check_code.specs.Checks.{FailInOrder, body, expression, statement}
use Rattle.sx_check_code.specs.Scopes.{asked_by, place_in, walk_in}
use Rattle.sx_check_code.proofs.Tells.{takes_in_order}

module _ (d : Declarations) (codes : CodeSpans d) (s : Scope) (n : Node) where
  pub expression-in-order : (e : Expr) (t : Option Ty) → FailInOrder n (length (expr_places e)) (expression d s n e t)
  expression-in-order e t =
      takes_in_order n (length (expr_places e)) Within ((judged_expr d e).value (place_in s) (asked_by t) uses.Kept) (walk_in s n.0)
      ((codes.exprs e).takes (place_in s) (asked_by t) uses.Kept) refl

  pub body-in-order : (b : Block) → FailInOrder n (length (block_places b)) (body d s n b)
  body-in-order b = takes_in_order n (length (block_places b)) Anywhere (body_value d (place_in s) b) (walk_in s n.0) (codes.bodies (place_in s) b) refl

  pub statement-in-order : (t : Statement) → FailInOrder n (length (statement_places t)) (statement d s n t)
  statement-in-order t =
      takes_in_order n (length (statement_places t)) Anywhere ((judged_statement d t).value (place_in s)) (walk_in s n.0) ((codes.statements t).takes (place_in s)) refl
