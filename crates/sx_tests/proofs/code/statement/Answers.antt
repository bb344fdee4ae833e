use Rattle.std.proofs.Common.{Some, ap, subst, ◌∙◌}
use Rattle.sx_nodes.specs.Walks.{CodeAt}
use Rattle.sx_tests.proofs.code.statement.Goals as goal

pub check_statement-requires : goal.check_statement-requires
check_statement-requires c = (c.in-Statement.field-0, subst (λ o. CodeAt c.args.tree.now.items c.args.node.0 o) (c.in-Some.is ∙ ap Some c.in-Statement.is) c.in_ok-found.ensures)
