use Rattle.sx_rv_asm.proofs.Fetched.{lies}
use Rattle.sx_rv_asm.proofs.laws.code_lies.Goals as goal

pub returns : goal.returns
returns c = lies
