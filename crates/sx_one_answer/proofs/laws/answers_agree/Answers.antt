use Rattle.sx_one_answer.proofs.Answers.{agree}
use Rattle.sx_one_answer.proofs.laws.answers_agree.Goals as goal

pub returns : goal.returns
returns c = agree
