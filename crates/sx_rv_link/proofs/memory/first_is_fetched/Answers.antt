use Rattle.sx_rv_link.proofs.FirstArea.{first_has_code}
use Rattle.sx_rv_link.proofs.memory.first_is_fetched.Goals as goal

pub returns : goal.returns
returns c = first_has_code
