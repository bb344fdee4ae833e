use Rattle.std.proofs.Common.{◌+◌, ◌*◌}
use Rattle.sx_check_expr.proofs.knot.+knot.Given as goal

abbrev pub decreases-expr_at : goal.decreases-expr_at
decreases-expr_at l = l.depth * 2

abbrev pub decreases-expr_at-exprs : goal.decreases-expr_at-exprs
decreases-expr_at-exprs l = l.fewer * 2 + 1

abbrev pub decreases-expr_at-rows : goal.decreases-expr_at-rows
decreases-expr_at-rows l = l.fewer * 2 + 1

abbrev pub decreases-statement_at : goal.decreases-statement_at
decreases-statement_at l = l.depth * 2

abbrev pub decreases-statement_at-exprs : goal.decreases-statement_at-exprs
decreases-statement_at-exprs l = l.fewer * 2 + 1

abbrev pub decreases-statement_at-rows : goal.decreases-statement_at-rows
decreases-statement_at-rows l = l.fewer * 2 + 1
