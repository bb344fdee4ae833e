use Rattle.std.proofs.Common.{◌≡◌, ◌++◌, drop, nat_eq}
use Rattle.indexmap.specs.IndexMap.{get}
use Rattle.sx_outline.specs.Outline.{accessor_nodes, accessors_visit}
use Rattle.sx_outline.proofs.declarations.visit_accessors.Given as goal

abbrev pub invariant-turns : goal.invariant-turns
invariant-turns l = record {
  nodes : l.nodes ++ accessor_nodes (get nat_eq l.names) (drop l.accessor-index l.accessors) l.visit ≡ accessor_nodes (get nat_eq l.names) l.accessors l.fn.visit;
  visit : accessors_visit (get nat_eq l.names) (drop l.accessor-index l.accessors) l.visit ≡ accessors_visit (get nat_eq l.names) l.accessors l.fn.visit;
}
