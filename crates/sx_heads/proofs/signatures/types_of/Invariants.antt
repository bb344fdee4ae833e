use Rattle.std.proofs.Common.{◌≡◌, ◌++◌, map, length}
use Rattle.sx_heads.specs.Signatures.{type_of}
use Rattle.sx_heads.proofs.signatures.types_of.Given as goal

abbrev pub invariant-parameters : goal.invariant-parameters
invariant-parameters l = l.types ++ map type_of l.parameters ≡ map type_of l.fn.parameters

abbrev pub decreases-parameters : goal.decreases-parameters
decreases-parameters l = length l.parameters
