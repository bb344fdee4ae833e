use Rattle.sx_rv_asm.proofs.Sizes.{length_form}
use Rattle.sx_rv_asm.proofs.laws.forms_have_sizes.Goals as goal

pub returns : goal.returns
returns c = length_form
