-- What readers answer, as values of the grammar.
use Rattle.std.specs.Prelude.{Option, Some, None}
use Rattle.sx_grammar.specs.Value.{Value, nothing, leaf, pair, a_closure, an_expr}
use Rattle.sx_grammar.specs.declared.lexemes.Lexeme.{Lexeme}
use Rattle.sx_tree.specs.declared.code.Closure.{Closure}
use Rattle.sx_tree.specs.declared.code.Expr.{Expr}

abbrev pub closure_or_nothing : Option Closure → Value
closure_or_nothing None = nothing
closure_or_nothing (Some c) = a_closure c

-- what is passed: an operand behind its sign, or an expression
abbrev pub passed : Option Lexeme → Expr → Value
passed None e = an_expr e
passed (Some sign) e = pair (leaf sign) (an_expr e)
