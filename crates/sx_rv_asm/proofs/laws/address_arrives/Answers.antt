use Rattle.sx_rv_asm.proofs.Walks.{address}
use Rattle.sx_rv_asm.proofs.laws.address_arrives.Goals as goal

pub returns : goal.returns
returns c = address
