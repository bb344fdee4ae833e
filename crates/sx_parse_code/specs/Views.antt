-- What readers answer, as values of the grammar.
use Rattle.std.specs.Prelude.{Option, Some, None}
use Rattle.sx_grammar.specs.declared.lexemes.Lexeme.{Lexeme}
use Rattle.sx_grammar.specs.Value.{Value, nothing, leaf, an_expr, a_block, a_statement, a_signature}
use Rattle.sx_parse_code.specs.declared.literals.Start.{Start}
use Rattle.sx_parse_code.specs.declared.literals.Start.TheVariants as starts
use Rattle.sx_tree.specs.declared.code.Expr.{Expr}
use Rattle.sx_parse_code.specs.declared.statements.Branch.{Branch}
use Rattle.sx_parse_code.specs.declared.statements.Branch.TheVariants as branches

abbrev pub leaf_or_nothing : Option Lexeme → Value
leaf_or_nothing None = nothing
leaf_or_nothing (Some l) = leaf l

abbrev pub expr_or_nothing : Option Expr → Value
expr_or_nothing None = nothing
expr_or_nothing (Some e) = an_expr e

abbrev pub branch_value : Branch → Value
branch_value branches.Absent = nothing
branch_value (branches.Block b) = a_block b
branch_value (branches.If s) = a_statement s

abbrev pub start_value : Start → Value
start_value (starts.Signature ps) = a_signature ps
start_value (starts.Expr e) = an_expr e
