use Rattle.std.proofs.Common.{◌≡◌, ◌++◌, drop}
use Rattle.sx_nodes.proofs.copies.+code.Given as goal

abbrev pub invariant-copy_links-loop-link : goal.invariant-copy_links-loop-link
invariant-copy_links-loop-link l = l.copies ++ drop l.link-index l.links ≡ l.links

abbrev pub invariant-copy_parts-loop-part : goal.invariant-copy_parts-loop-part
invariant-copy_parts-loop-part l = l.copies ++ drop l.part-index l.parts ≡ l.parts

abbrev pub invariant-copy_exprs-loop-expr : goal.invariant-copy_exprs-loop-expr
invariant-copy_exprs-loop-expr l = l.copies ++ drop l.expr-index l.exprs ≡ l.exprs

abbrev pub invariant-copy_arguments-loop-argument : goal.invariant-copy_arguments-loop-argument
invariant-copy_arguments-loop-argument l = l.copies ++ drop l.argument-index l.arguments ≡ l.arguments

abbrev pub invariant-copy_statements-loop-statement : goal.invariant-copy_statements-loop-statement
invariant-copy_statements-loop-statement l = l.copies ++ drop l.statement-index l.statements ≡ l.statements
