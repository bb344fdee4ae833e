use Rattle.std.proofs.Common.{◌≡◌, ◌++◌, drop, nat_eq}
use Rattle.indexmap.specs.IndexMap.{get}
use Rattle.sx_outline.specs.Outline.{member_nodes, members_visit}
use Rattle.sx_outline.proofs.declarations.visit_members.Given as goal

abbrev pub invariant-turns : goal.invariant-turns
invariant-turns l = record {
  nodes : l.nodes ++ member_nodes (get nat_eq l.names) (drop l.member-index l.members) l.visit ≡ member_nodes (get nat_eq l.names) l.members l.fn.visit;
  visit : members_visit (get nat_eq l.names) (drop l.member-index l.members) l.visit ≡ members_visit (get nat_eq l.names) l.members l.fn.visit;
}
