use Rattle.sx_rv_asm.proofs.Standing.{stands}
use Rattle.sx_rv_asm.proofs.laws.code_stands.Goals as goal

pub returns : goal.returns
returns c = stands
