use Rattle.std.proofs.Common.{sym, subst, arith}
use Rattle.sx_driver.specs.Faults.{Stops}
use Rattle.sx_driver.proofs.Refused.{refused}
use Rattle.sx_driver.proofs.front.tree_of.Goals as goal

pub returns-in-Ok : goal.returns-in-Ok
returns-in-Ok c = subst (Stops c.args.text.now) (sym c.syntactic.ensures) (refused c.args.text.now c.in-Ok.tokens c.in-Err-parse.stop (omega (arith, c.if-text-gt-MOST_BYTES.false)) c.in-Ok.ensures c.in-Err-parse.ensures)
