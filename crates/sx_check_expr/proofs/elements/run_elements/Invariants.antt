use Rattle.std.proofs.Common.{◌≡◌, [], map, length}
use Rattle.sx_scope.specs.Verdict.{found, typed}
use Rattle.sx_check_expr.specs.Judge.{judged_expr, run_elements}
use Rattle.sx_check_expr.proofs.elements.run_elements.Given as goal

abbrev pub invariant-elements : goal.invariant-elements
invariant-elements g l =
    run_elements l.place (found l.found l.walk) (map (judged_expr l.declarations) l.elements) ≡ run_elements l.place (typed [] l.fn.walk) (map (judged_expr l.declarations) l.fn.elements)

abbrev pub decreases-elements : goal.decreases-elements
decreases-elements g l = length l.elements
