use Rattle.sx_rv_link.proofs.Straightened.{straightened}
use Rattle.sx_rv_link.proofs.straight.straight_is_followed.Goals as goal

pub returns : goal.returns
returns c = straightened
