use Rattle.sx_rv_link.proofs.Meetings.{jump_goes}
use Rattle.sx_rv_link.proofs.items.jumps_are_met.Goals as goal

pub returns : goal.returns
returns c = jump_goes
