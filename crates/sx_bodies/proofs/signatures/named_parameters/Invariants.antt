use Rattle.std.proofs.Common.{◌≡◌, [], map, length}
use Rattle.sx_scope.specs.Verdict.{found, typed}
use Rattle.sx_bodies.specs.Literals.{run_parameters, named_parameters, name_number}
use Rattle.sx_bodies.proofs.signatures.named_parameters.Given as goal

abbrev pub invariant-names : goal.invariant-names
invariant-names l =
    run_parameters (found l.parameters l.walk) (named_parameters l.declarations l.from l.wanted (map name_number l.names))
    ≡ run_parameters (typed [] l.fn.walk) (named_parameters l.declarations l.from l.fn.wanted (map name_number l.fn.names))

abbrev pub decreases-names : goal.decreases-names
decreases-names l = length l.names
