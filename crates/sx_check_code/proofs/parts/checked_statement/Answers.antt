use Rattle.sx_order_code.proofs.Whole.{code-spans}
use Rattle.sx_check_code.proofs.Ordered.{statement-in-order}
use Rattle.sx_check_code.proofs.parts.checked_statement.Goals as goal

pub returns-in_err-walk-clause-order : goal.returns-in_err-walk-clause-order
returns-in_err-walk-clause-order c = statement-in-order c.args.declarations.now (code-spans c.args.declarations.now) c.args.scope.now c.args.node c.args.statement.now

pub returns-clause-order : goal.returns-clause-order
returns-clause-order c = statement-in-order c.args.declarations.now (code-spans c.args.declarations.now) c.args.scope.now c.args.node c.args.statement.now
