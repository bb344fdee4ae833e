use Rattle.std.proofs.Common.{Some, ap, subst, ◌∙◌}
use Rattle.sx_nodes.specs.declared.code.Code.TheVariants as code
use Rattle.sx_nodes.specs.Walks.{CodeAt}
use Rattle.sx_order_code.proofs.Whole.{code-spans}
use Rattle.sx_check_code.specs.Checks as checks
use Rattle.sx_check_code.specs.Checks.{Tells}
use Rattle.sx_check_code.proofs.Ordered.{expression-in-order}
use Rattle.sx_check_code.proofs.Same.{one_expression}
use Rattle.sx_check_code.proofs.checking.check_expression.Goals as goal

pub returns-in_err-found-clause-order : goal.returns-in_err-found-clause-order
returns-in_err-found-clause-order c x k = expression-in-order c.args.declarations.now (code-spans c.args.declarations.now) c.args.scope.now c.args.node x c.args.expected

pub returns-in-Expression-clause-told : goal.returns-in-Expression-clause-told
returns-in-Expression-clause-told c x k =
    let here : CodeAt c.args.tree.now.items c.args.node.0 (Some (code.Expression c.in-Expression.expression)) =
    subst (λ o. CodeAt c.args.tree.now.items c.args.node.0 o) (c.in-Some.is ∙ ap Some c.in-Expression.is) c.in_ok-found.ensures in
    subst (λ y. Tells c.checked_expression.result (checks.expression c.args.declarations.now c.args.scope.now c.args.node y c.args.expected))
    (one_expression c.args.tree.now.items c.args.node c.in-Expression.expression x here k) c.checked_expression.ensures.told

pub returns-in-Expression-clause-order : goal.returns-in-Expression-clause-order
returns-in-Expression-clause-order c x k = expression-in-order c.args.declarations.now (code-spans c.args.declarations.now) c.args.scope.now c.args.node x c.args.expected

pub returns-clause-order : goal.returns-clause-order
returns-clause-order c x k = expression-in-order c.args.declarations.now (code-spans c.args.declarations.now) c.args.scope.now c.args.node x c.args.expected
