use Rattle.sx_rv_asm.proofs.Walks.{branch}
use Rattle.sx_rv_asm.proofs.laws.branch_arrives.Goals as goal

pub returns : goal.returns
returns c = branch
