use Rattle.std.proofs.Common.{◌≡◌, length}
use Rattle.sx_scope.specs.Verdict.{found, typed}
use Rattle.sx_calls.specs.Calls.{nothing_passed, run_arguments}
use Rattle.sx_check_expr.specs.Arguments.{judged_arguments}
use Rattle.sx_check_expr.proofs.arguments.run_arguments.Given as goal

abbrev pub invariant-arguments : goal.invariant-arguments
invariant-arguments g l =
    run_arguments l.place (found l.passed l.walk) l.slots (judged_arguments l.declarations l.arguments l.closure) ≡ run_arguments l.place (typed nothing_passed l.fn.walk) l.fn.slots (judged_arguments l.declarations l.fn.arguments l.closure)

abbrev pub decreases-arguments : goal.decreases-arguments
decreases-arguments g l = length l.arguments
