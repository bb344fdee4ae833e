use Rattle.sx_order_code.proofs.Whole.{code-spans}
use Rattle.sx_check_code.proofs.Ordered.{body-in-order}
use Rattle.sx_check_code.proofs.parts.checked_body.Goals as goal

pub returns-in_err-walk-clause-order : goal.returns-in_err-walk-clause-order
returns-in_err-walk-clause-order c = body-in-order c.args.declarations.now (code-spans c.args.declarations.now) c.args.scope.now c.args.node c.args.block.now

pub returns-clause-order : goal.returns-clause-order
returns-clause-order c = body-in-order c.args.declarations.now (code-spans c.args.declarations.now) c.args.scope.now c.args.node c.args.block.now
