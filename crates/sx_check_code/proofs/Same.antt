-- What stands at a node is one expression, one block or one statement.
use Rattle.std.proofs.Common.{◌≡◌, List, map, Option, Some, ap}
use Rattle.sx_span.specs.declared.places.Node.{Node}
use Rattle.sx_tree.specs.declared.code.Block.{Block}
use Rattle.sx_tree.specs.declared.code.Expr.{Expr}
use Rattle.sx_tree.specs.declared.code.Statement.{Statement}
use Rattle.sx_tree.specs.declared.declarations.Item.{Item}
use Rattle.sx_nodes.specs.declared.code.Code.{Code}
use Rattle.sx_nodes.specs.declared.code.Code.TheVariants as code
use Rattle.sx_nodes.specs.Pieces.{item}
use Rattle.sx_nodes.proofs.OneCode.{one_code}
use Rattle.sx_check_code.specs.Checks.{IsBlock, IsExpression, IsStatement}

abbrev pub expression_in : Expr → Option Code → Expr
expression_in e (Some (code.Expression x)) = x
expression_in e o = e

pub one_expression : (is : List Item) (n : Node) (e x : Expr) → IsExpression is n e → IsExpression is n x → e ≡ x
one_expression is n e x h k = ap (expression_in e) (one_code (map item is) n.0 (Some (code.Expression e)) (Some (code.Expression x)) h k)

abbrev pub block_in : Block → Option Code → Block
block_in b (Some (code.Block x)) = x
block_in b o = b

pub one_block : (is : List Item) (n : Node) (b x : Block) → IsBlock is n b → IsBlock is n x → b ≡ x
one_block is n b x h k = ap (block_in b) (one_code (map item is) n.0 (Some (code.Block b)) (Some (code.Block x)) h k)

abbrev pub statement_in : Statement → Option Code → Statement
statement_in s (Some (code.Statement x)) = x
statement_in s o = s

pub one_statement : (is : List Item) (n : Node) (s x : Statement) → IsStatement is n s → IsStatement is n x → s ≡ x
one_statement is n s x h k = ap (statement_in s) (one_code (map item is) n.0 (Some (code.Statement s)) (Some (code.Statement x)) h k)
