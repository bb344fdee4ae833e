use Rattle.sx_texts.proofs.Least.{least}
use Rattle.sx_texts.proofs.laws.first_fault_is_least.Goals as goal

pub returns : goal.returns
returns c = least
