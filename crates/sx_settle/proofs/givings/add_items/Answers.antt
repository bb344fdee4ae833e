use Rattle.std.proofs.Common.{map}
use Rattle.sx_settle.specs.Steps.{given}
use Rattle.sx_settle.proofs.Ordered.{items_on}
use Rattle.sx_settle.proofs.givings.add_items.Goals as goal

pub items-preserved : goal.items-preserved
items-preserved c =
    items_on (map given c.items.givings.items) (map given c.add_item.new.givings.items) _ c.items.items.now c.in-Some.other_items.now c.in-Some.item.now c.items.nodes.now c.in-Some-split_first.other_nodes.now c.in-Some-split_first.node.now c.in-Some.ensures.cases.0 c.in-Some-split_first.ensures.cases.0 c.items.invariant c.in_ok-add_item.ensures
