use Rattle.std.proofs.Common.{◌≡◌, ◌++◌, drop, map}
use Rattle.sx_tree.specs.Nodes.{all, argument_places, expr_places, inner_of_parts, link_places, part_nodes, statement_places}
use Rattle.sx_tree.proofs.nodes.+code.Given as goal

abbrev pub invariant-put_statements-loop-statement : goal.invariant-put_statements-loop-statement
invariant-put_statements-loop-statement l = l.places.items ++ all (map statement_places (drop l.statement-index l.statements)) ≡ l.fn.places.items ++ all (map statement_places l.statements)

abbrev pub invariant-put_links-loop-link : goal.invariant-put_links-loop-link
invariant-put_links-loop-link l = l.places.items ++ all (map link_places (drop l.link-index l.links)) ≡ l.fn.places.items ++ all (map link_places l.links)

abbrev pub invariant-put_exprs-loop-expr : goal.invariant-put_exprs-loop-expr
invariant-put_exprs-loop-expr l = l.places.items ++ all (map expr_places (drop l.expr-index l.exprs)) ≡ l.fn.places.items ++ all (map expr_places l.exprs)

abbrev pub invariant-put_arguments-loop-argument : goal.invariant-put_arguments-loop-argument
invariant-put_arguments-loop-argument l = l.places.items ++ all (map argument_places (drop l.argument-index l.arguments)) ≡ l.fn.places.items ++ all (map argument_places l.arguments)

abbrev pub invariant-put_parts-loop-part : goal.invariant-put_parts-loop-part
invariant-put_parts-loop-part l = l.places.items ++ inner_of_parts (map part_nodes (drop l.part-index l.parts)) ≡ l.fn.places.items ++ inner_of_parts (map part_nodes l.parts)
