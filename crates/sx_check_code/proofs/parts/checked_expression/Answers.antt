use Rattle.sx_order_code.proofs.Whole.{code-spans}
use Rattle.sx_check_code.proofs.Ordered.{expression-in-order}
use Rattle.sx_check_code.proofs.parts.checked_expression.Goals as goal

pub returns-in_err-walk-clause-order : goal.returns-in_err-walk-clause-order
returns-in_err-walk-clause-order c = expression-in-order c.args.declarations.now (code-spans c.args.declarations.now) c.args.scope.now c.args.node c.args.expression.now c.args.expected

pub returns-clause-order : goal.returns-clause-order
returns-clause-order c = expression-in-order c.args.declarations.now (code-spans c.args.declarations.now) c.args.scope.now c.args.node c.args.expression.now c.args.expected
