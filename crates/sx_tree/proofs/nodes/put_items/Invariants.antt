use Rattle.std.proofs.Common.{◌≡◌, ◌++◌, drop}
use Rattle.sx_tree.specs.Nodes.{places_of_items}
use Rattle.sx_tree.proofs.nodes.put_items.Given as goal

abbrev pub invariant-loop-item : goal.invariant-loop-item
invariant-loop-item l = l.places.items ++ places_of_items l.of (drop l.item-index l.items) ≡ l.fn.places.items ++ places_of_items l.of l.items
