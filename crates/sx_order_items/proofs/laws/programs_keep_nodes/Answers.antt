use Rattle.sx_order_items.proofs.Whole.{programs-keep}
use Rattle.sx_order_items.proofs.laws.programs_keep_nodes.Goals as goal

pub returns : goal.returns
returns c = programs-keep
