use Rattle.std.proofs.Common.{Some, ap, subst, ◌∙◌}
use Rattle.sx_nodes.specs.Walks.{CodeAt}
use Rattle.sx_tests.proofs.code.value.Goals as goal

pub check_expression-requires : goal.check_expression-requires
check_expression-requires c = (c.in-Expression.field-0, subst (λ o. CodeAt c.args.tree.now.items c.args.node.0 o) (c.in-Some.is ∙ ap Some c.in-Expression.is) c.in_ok-found.ensures)
