use Rattle.std.proofs.Common.{Some, ap, subst, ◌∙◌}
use Rattle.sx_nodes.specs.declared.code.Code.TheVariants as code
use Rattle.sx_nodes.specs.Walks.{CodeAt}
use Rattle.sx_order_code.proofs.Whole.{code-spans}
use Rattle.sx_check_code.specs.Checks as checks
use Rattle.sx_check_code.specs.Checks.{Tells}
use Rattle.sx_check_code.proofs.Ordered.{body-in-order}
use Rattle.sx_check_code.proofs.Same.{one_block}
use Rattle.sx_check_code.proofs.checking.check_block.Goals as goal

pub returns-in_err-found-clause-order : goal.returns-in_err-found-clause-order
returns-in_err-found-clause-order c x k = body-in-order c.args.declarations.now (code-spans c.args.declarations.now) c.args.scope.now c.args.node x

pub returns-in-Block-clause-told : goal.returns-in-Block-clause-told
returns-in-Block-clause-told c x k =
    let here : CodeAt c.args.tree.now.items c.args.node.0 (Some (code.Block c.in-Block.block)) =
    subst (λ o. CodeAt c.args.tree.now.items c.args.node.0 o) (c.in-Some.is ∙ ap Some c.in-Block.is) c.in_ok-found.ensures in
    subst (λ y. Tells c.checked_body.result (checks.body c.args.declarations.now c.args.scope.now c.args.node y))
    (one_block c.args.tree.now.items c.args.node c.in-Block.block x here k) c.checked_body.ensures.told

pub returns-in-Block-clause-order : goal.returns-in-Block-clause-order
returns-in-Block-clause-order c x k = body-in-order c.args.declarations.now (code-spans c.args.declarations.now) c.args.scope.now c.args.node x

pub returns-clause-order : goal.returns-clause-order
returns-clause-order c x k = body-in-order c.args.declarations.now (code-spans c.args.declarations.now) c.args.scope.now c.args.node x
