use Rattle.sx_order_items.proofs.Whole.{first-least}
use Rattle.sx_order_items.proofs.laws.first_failing_node_is_least.Goals as goal

pub returns : goal.returns
returns c = first-least
