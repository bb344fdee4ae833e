use Rattle.sx_order_items.proofs.Whole.{failing_nodes-rise}
use Rattle.sx_order_items.proofs.laws.failing_nodes_rise.Goals as goal

pub returns : goal.returns
returns c = failing_nodes-rise
