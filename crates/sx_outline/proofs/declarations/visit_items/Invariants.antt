use Rattle.std.proofs.Common.{◌≡◌, ◌++◌, drop, nat_eq}
use Rattle.indexmap.specs.IndexMap.{get}
use Rattle.sx_outline.specs.Outline.{item_nodes, items_visit}
use Rattle.sx_outline.proofs.declarations.visit_items.Given as goal

abbrev pub invariant-turns : goal.invariant-turns
invariant-turns l = record {
  nodes : l.nodes ++ item_nodes (get nat_eq l.names) (drop l.item-index l.items) l.visit ≡ item_nodes (get nat_eq l.names) l.items l.fn.visit;
  visit : items_visit (get nat_eq l.names) (drop l.item-index l.items) l.visit ≡ items_visit (get nat_eq l.names) l.items l.fn.visit;
}
