use Rattle.std.proofs.Common.{◌≡◌, [], map, length}
use Rattle.sx_scope.specs.Verdict.{found, typed}
use Rattle.sx_heads.specs.Heads.{run_parameters, checked_parameter}
use Rattle.sx_heads.proofs.heads.checked_parameters.Given as goal

abbrev pub invariant-written : goal.invariant-written
invariant-written l =
    run_parameters (found l.parameters l.walk) (map (checked_parameter l.declarations l.list l.from) l.written) ≡ run_parameters (typed [] l.fn.walk) (map (checked_parameter l.declarations l.list l.from) l.fn.written)

abbrev pub decreases-written : goal.decreases-written
decreases-written l = length l.written
