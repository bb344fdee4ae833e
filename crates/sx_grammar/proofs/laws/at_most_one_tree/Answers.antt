use Rattle.sx_grammar.proofs.Verdict.{one_program}
use Rattle.sx_grammar.proofs.laws.at_most_one_tree.Goals as goal

pub returns : goal.returns
returns c = one_program
