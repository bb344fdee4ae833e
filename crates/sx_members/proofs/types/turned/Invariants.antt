use Rattle.std.proofs.Common.{◌≡◌, ◌++◌, length, reverse}
use Rattle.sx_members.proofs.types.turned.Given as goal

abbrev pub invariant-properties : goal.invariant-properties
invariant-properties l = l.turned ++ reverse l.properties ≡ reverse l.fn.properties

abbrev pub decreases-properties : goal.decreases-properties
decreases-properties l = length l.properties
