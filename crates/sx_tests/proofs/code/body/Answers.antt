use Rattle.std.proofs.Common.{Some, ap, subst, ◌∙◌}
use Rattle.sx_nodes.specs.Walks.{CodeAt}
use Rattle.sx_tests.proofs.code.body.Goals as goal

pub check_block-requires : goal.check_block-requires
check_block-requires c = (c.in-Block.field-0, subst (λ o. CodeAt c.args.tree.now.items c.args.node.0 o) (c.in-Some.is ∙ ap Some c.in-Block.is) c.in_ok-found.ensures)
