use Rattle.std.proofs.Common.{◌≡◌, ◌++◌, map, length}
use Rattle.sx_bodies.specs.Literals.{function_parameter}
use Rattle.sx_bodies.proofs.literals.literal_type.Given as goal

abbrev pub invariant-parameters : goal.invariant-parameters
invariant-parameters l = l.types ++ map function_parameter l.parameters ≡ map function_parameter l.fn.parameters

abbrev pub decreases-parameters : goal.decreases-parameters
decreases-parameters l = length l.parameters
