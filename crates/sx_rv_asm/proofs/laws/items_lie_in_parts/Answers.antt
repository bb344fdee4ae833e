use Rattle.sx_rv_asm.proofs.Fetched.{parts}
use Rattle.sx_rv_asm.proofs.laws.items_lie_in_parts.Goals as goal

pub returns : goal.returns
returns c = parts
