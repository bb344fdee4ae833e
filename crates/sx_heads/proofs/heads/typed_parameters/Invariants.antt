use Rattle.std.proofs.Common.{◌≡◌, [], map, length}
use Rattle.sx_scope.specs.Verdict.{found, typed}
use Rattle.sx_heads.specs.Heads.{run_parameters, typed_parameter}
use Rattle.sx_heads.proofs.heads.typed_parameters.Given as goal

abbrev pub invariant-written : goal.invariant-written
invariant-written l =
    run_parameters (found l.parameters l.walk) (map (typed_parameter l.declarations) l.written) ≡ run_parameters (typed [] l.fn.walk) (map (typed_parameter l.declarations) l.fn.written)

abbrev pub decreases-written : goal.decreases-written
decreases-written l = length l.written
