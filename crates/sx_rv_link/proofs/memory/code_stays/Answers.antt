use Rattle.sx_rv_link.proofs.Kept.{steps_keep}
use Rattle.sx_rv_link.proofs.memory.code_stays.Goals as goal

pub returns : goal.returns
returns c = steps_keep
