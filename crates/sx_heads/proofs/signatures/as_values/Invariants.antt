use Rattle.std.proofs.Common.{◌≡◌, ◌++◌, map, length}
use Rattle.sx_heads.specs.Signatures.{as_value}
use Rattle.sx_heads.proofs.signatures.as_values.Given as goal

abbrev pub invariant-parameters : goal.invariant-parameters
invariant-parameters l = l.values ++ map as_value l.parameters ≡ map as_value l.fn.parameters

abbrev pub decreases-parameters : goal.decreases-parameters
decreases-parameters l = length l.parameters
