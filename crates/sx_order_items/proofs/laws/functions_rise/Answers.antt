use Rattle.sx_order_items.proofs.Whole.{functions-rise}
use Rattle.sx_order_items.proofs.laws.functions_rise.Goals as goal

pub returns : goal.returns
returns c = functions-rise
