use Rattle.std.proofs.Common.{◌≡◌, ◌++◌, length}
use Rattle.sx_check_code.proofs.scope.stacked.Given as goal

abbrev pub invariant-names : goal.invariant-names
invariant-names l = l.locals ++ l.names ≡ l.fn.names

abbrev pub decreases-names : goal.decreases-names
decreases-names l = length l.names
