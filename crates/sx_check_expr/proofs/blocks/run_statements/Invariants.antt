use Rattle.std.proofs.Common.{◌≡◌, [], length}
use Rattle.sx_scope.specs.Verdict.{found, typed}
use Rattle.sx_bodies.specs.Statements.{run_statements}
use Rattle.sx_check_expr.specs.Judge.{judged_statements}
use Rattle.sx_check_expr.proofs.blocks.run_statements.Given as goal

abbrev pub invariant-statements : goal.invariant-statements
invariant-statements g l =
    run_statements l.place (found l.all l.walk) (judged_statements l.declarations l.statements)
    ≡ run_statements l.place (typed [] l.fn.walk) (judged_statements l.declarations l.fn.statements)

abbrev pub decreases-statements : goal.decreases-statements
decreases-statements g l = length l.statements
