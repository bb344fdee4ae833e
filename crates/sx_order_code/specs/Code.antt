-- How many nodes expressions, statements and bodies take: as many as they have places.
use Rattle.std.specs.Prelude.{length}
use Rattle.sx_tree.specs.declared.code.Block.{Block}
use Rattle.sx_tree.specs.declared.code.Expr.{Expr}
use Rattle.sx_tree.specs.declared.code.Statement.{Statement}
use Rattle.sx_tree.specs.Nodes.{block_places, expr_places, statement_places}
use Rattle.sx_scope.specs.declared.declarations.Declarations.{Declarations}
use Rattle.sx_scope.specs.declared.walk.Place.{Place}
use Rattle.sx_scope.specs.Walks.{numbered}
use Rattle.sx_bodies.specs.Statements.{body}
use Rattle.sx_check_expr.specs.Judge.{judged_block, judged_expr, judged_statement}
use Rattle.sx_order.specs.Order.{Takes, Anywhere}
use Rattle.sx_order.specs.Parts.{SpansExpr, SpansStatement}

pub record CodeSpans (d : Declarations) : Type 0 where
  pub exprs : (e : Expr) → SpansExpr (length (expr_places e)) (judged_expr d e)
  pub statements : (s : Statement) → SpansStatement (length (statement_places s)) (judged_statement d s)
  pub bodies : (p : Place) (b : Block) → Takes (length (block_places b)) Anywhere (numbered (λ n. body p (judged_block d b)))

-- Expressions, statements and bodies take as many nodes as they have places, and their failing nodes stand in the order of the nodes,
-- as do the closure literals in them.
abbrev pub CodeTakesItsPlaces : Type 0
CodeTakesItsPlaces = (d : Declarations) → CodeSpans d
