use Rattle.sx_lexer.proofs.Agreement.{agree}
use Rattle.sx_lexer.proofs.laws.answers_agree.Goals as goal

pub returns : goal.returns
returns c = record { agree = agree }
