use Rattle.sx_rv_asm.proofs.Sizes.{code_short}
use Rattle.sx_rv_asm.proofs.laws.code_is_short.Goals as goal

pub returns : goal.returns
returns c = code_short
