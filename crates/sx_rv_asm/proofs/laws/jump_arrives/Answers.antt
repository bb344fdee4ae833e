use Rattle.sx_rv_asm.proofs.Walks.{jump}
use Rattle.sx_rv_asm.proofs.laws.jump_arrives.Goals as goal

pub returns : goal.returns
returns c = jump
