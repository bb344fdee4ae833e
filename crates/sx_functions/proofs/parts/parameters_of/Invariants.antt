use Rattle.std.proofs.Common.{◌≡◌, ◌++◌, map, length}
use Rattle.sx_functions.specs.Functions.{parameter_of}
use Rattle.sx_functions.proofs.parts.parameters_of.Given as goal

abbrev pub invariant-head : goal.invariant-head
invariant-head l = l.parameters ++ map parameter_of l.head ≡ map parameter_of l.fn.head

abbrev pub decreases-head : goal.decreases-head
decreases-head l = length l.head
