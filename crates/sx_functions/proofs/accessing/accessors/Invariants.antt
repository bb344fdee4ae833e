use Rattle.std.proofs.Common.{◌≡◌, length}
use Rattle.sx_scope.specs.Verdict.{found, typed}
use Rattle.sx_functions.specs.Accessors.{run_accessors}
use Rattle.sx_functions.proofs.accessing.accessors.Given as goal

abbrev pub invariant-remaining : goal.invariant-remaining
invariant-remaining l =
    run_accessors l.declarations l.names l.accessed (found l.all l.walk) l.remaining ≡ run_accessors l.declarations l.names l.accessed (typed tt l.fn.walk) l.fn.accessors

abbrev pub decreases-remaining : goal.decreases-remaining
decreases-remaining l = length l.remaining
