use Rattle.sx_grammar.proofs.Verdict.{one_head}
use Rattle.sx_grammar.proofs.laws.at_most_one_head.Goals as goal

pub returns : goal.returns
returns c = one_head
