use Rattle.std.proofs.Common.{◌≡◌, ◌++◌, length, map}
use Rattle.sx_members.specs.Members.{initialiser_parameter}
use Rattle.sx_members.proofs.types.property_parameters.Given as goal

abbrev pub invariant-properties : goal.invariant-properties
invariant-properties l = l.parameters ++ map initialiser_parameter l.properties ≡ map initialiser_parameter l.fn.properties

abbrev pub decreases-properties : goal.decreases-properties
decreases-properties l = length l.properties
