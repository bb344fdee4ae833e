use Rattle.sx_bodies.specs.Statements.{knows_value, passes_end}
use Rattle.sx_check_expr.proofs.LastStatements.{and_first, and_second}
use Rattle.sx_check_expr.specs.Judge.{judged_statements}
use Rattle.sx_check_expr.proofs.ends.needs_return.Goals as goal

pub returns-then-knows_value : goal.returns-then-knows_value
returns-then-knows_value c = λ d. and_second c.knows_value.result c.passes_end.result (knows_value c.args.gives) (passes_end (judged_statements d c.args.statements.now)) c.knows_value.ensures c.if-knows_value.true (c.passes_end.ensures d)

pub returns-else-knows_value : goal.returns-else-knows_value
returns-else-knows_value c = λ d. and_first c.knows_value.result (knows_value c.args.gives) (passes_end (judged_statements d c.args.statements.now)) c.knows_value.ensures c.if-knows_value.false
