use Rattle.std.proofs.Common.{rules}
use Rattle.sx_lexer.specs.Words.{spelled_operators}
use Rattle.sx_lexer.proofs.operators.operator.Goals as goal

pub returns : goal.returns
unfolding spelled_operators
returns c = search rules
