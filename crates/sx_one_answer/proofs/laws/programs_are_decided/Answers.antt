use Rattle.sx_one_answer.proofs.Decided.{programs-decided}
use Rattle.sx_one_answer.proofs.laws.programs_are_decided.Goals as goal

pub returns : goal.returns
returns c = programs-decided
