use Rattle.std.proofs.Common.{◌≡◌, [], map, length}
use Rattle.sx_scope.specs.Verdict.{found, typed}
use Rattle.sx_calls.specs.Calls.{run_indices}
use Rattle.sx_check_expr.specs.Judge.{judged_expr}
use Rattle.sx_check_expr.proofs.indices.run_indices.Given as goal

abbrev pub invariant-indices : goal.invariant-indices
invariant-indices g l =
    run_indices l.declarations l.place (found l.found l.walk) l.types (map (judged_expr l.declarations) l.indices) ≡ run_indices l.declarations l.place (typed [] l.fn.walk) l.fn.types (map (judged_expr l.declarations) l.fn.indices)

abbrev pub decreases-indices : goal.decreases-indices
decreases-indices g l = length l.indices
