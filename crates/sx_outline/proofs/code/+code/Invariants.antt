use Rattle.std.proofs.Common.{◌≡◌, drop, map, nat_eq}
use Rattle.indexmap.specs.IndexMap.{get}
use Rattle.sx_outline.specs.Visit.{all, argument_visit, expr_visit, inner_of, link_visit, part_visit, statement_visit}
use Rattle.sx_outline.proofs.code.+code.Given as goal

abbrev pub invariant-visit_exprs-turns : goal.invariant-visit_exprs-turns
invariant-visit_exprs-turns l = all (map (expr_visit (get nat_eq l.names)) (drop l.expr-index l.exprs)) l.visit ≡ all (map (expr_visit (get nat_eq l.names)) l.exprs) l.fn.visit

abbrev pub invariant-visit_links-turns : goal.invariant-visit_links-turns
invariant-visit_links-turns l = all (map (link_visit (get nat_eq l.names)) (drop l.link-index l.links)) l.visit ≡ all (map (link_visit (get nat_eq l.names)) l.links) l.fn.visit

abbrev pub invariant-visit_parts-turns : goal.invariant-visit_parts-turns
invariant-visit_parts-turns l = inner_of (map (part_visit (get nat_eq l.names)) (drop l.part-index l.parts)) l.visit ≡ inner_of (map (part_visit (get nat_eq l.names)) l.parts) l.fn.visit

abbrev pub invariant-visit_arguments-turns : goal.invariant-visit_arguments-turns
invariant-visit_arguments-turns l = all (map (argument_visit (get nat_eq l.names)) (drop l.argument-index l.arguments)) l.visit ≡ all (map (argument_visit (get nat_eq l.names)) l.arguments) l.fn.visit

abbrev pub invariant-visit_statements-turns : goal.invariant-visit_statements-turns
invariant-visit_statements-turns l = all (map (statement_visit (get nat_eq l.names)) (drop l.statement-index l.statements)) l.visit ≡ all (map (statement_visit (get nat_eq l.names)) l.statements) l.fn.visit
