use Rattle.std.proofs.Common.{◌≡◌, [], map, length}
use Rattle.sx_scope.specs.Verdict.{found, typed}
use Rattle.sx_bodies.specs.Literals.{run_parameters, typed_parameter, typed_name}
use Rattle.sx_bodies.proofs.signatures.typed_parameters.Given as goal

abbrev pub invariant-written : goal.invariant-written
invariant-written l =
    run_parameters (found l.parameters l.walk) (map (typed_parameter l.declarations l.from) (map (typed_name l.declarations) l.written))
    ≡ run_parameters (typed [] l.fn.walk) (map (typed_parameter l.declarations l.from) (map (typed_name l.declarations) l.fn.written))

abbrev pub decreases-written : goal.decreases-written
decreases-written l = length l.written
