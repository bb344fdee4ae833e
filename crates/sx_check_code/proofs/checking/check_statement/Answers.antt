use Rattle.std.proofs.Common.{Some, ap, subst, ◌∙◌}
use Rattle.sx_nodes.specs.declared.code.Code.TheVariants as code
use Rattle.sx_nodes.specs.Walks.{CodeAt}
use Rattle.sx_order_code.proofs.Whole.{code-spans}
use Rattle.sx_check_code.specs.Checks as checks
use Rattle.sx_check_code.specs.Checks.{Tells}
use Rattle.sx_check_code.proofs.Ordered.{statement-in-order}
use Rattle.sx_check_code.proofs.Same.{one_statement}
use Rattle.sx_check_code.proofs.checking.check_statement.Goals as goal

pub returns-in_err-found-clause-order : goal.returns-in_err-found-clause-order
returns-in_err-found-clause-order c x k = statement-in-order c.args.declarations.now (code-spans c.args.declarations.now) c.args.scope.now c.args.node x

pub returns-in-Statement-clause-told : goal.returns-in-Statement-clause-told
returns-in-Statement-clause-told c x k =
    let here : CodeAt c.args.tree.now.items c.args.node.0 (Some (code.Statement c.in-Statement.statement)) =
    subst (λ o. CodeAt c.args.tree.now.items c.args.node.0 o) (c.in-Some.is ∙ ap Some c.in-Statement.is) c.in_ok-found.ensures in
    subst (λ y. Tells c.checked_statement.result (checks.statement c.args.declarations.now c.args.scope.now c.args.node y))
    (one_statement c.args.tree.now.items c.args.node c.in-Statement.statement x here k) c.checked_statement.ensures.told

pub returns-in-Statement-clause-order : goal.returns-in-Statement-clause-order
returns-in-Statement-clause-order c x k = statement-in-order c.args.declarations.now (code-spans c.args.declarations.now) c.args.scope.now c.args.node x

pub returns-clause-order : goal.returns-clause-order
returns-clause-order c x k = statement-in-order c.args.declarations.now (code-spans c.args.declarations.now) c.args.scope.now c.args.node x
