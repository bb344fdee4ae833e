use Rattle.sx_order_code.proofs.Whole.{code-spans}
use Rattle.sx_order_code.proofs.laws.code_takes_its_places.Goals as goal

pub returns : goal.returns
returns c = code-spans
