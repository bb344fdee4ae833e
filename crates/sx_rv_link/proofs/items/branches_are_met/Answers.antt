use Rattle.sx_rv_link.proofs.Meetings.{branch_goes}
use Rattle.sx_rv_link.proofs.items.branches_are_met.Goals as goal

pub returns : goal.returns
returns c = branch_goes
