use Rattle.sx_rv_link.proofs.Meetings.{plain_goes}
use Rattle.sx_rv_link.proofs.items.instructions_are_met.Goals as goal

pub returns : goal.returns
returns c = plain_goes
