use Rattle.sx_rv_link.proofs.Meetings.{address_goes}
use Rattle.sx_rv_link.proofs.items.addresses_are_met.Goals as goal

pub returns : goal.returns
returns c = address_goes
