use Rattle.sx_texts.proofs.Answers.{agree}
use Rattle.sx_texts.proofs.laws.answers_agree.Goals as goal

pub returns : goal.returns
returns c = agree
