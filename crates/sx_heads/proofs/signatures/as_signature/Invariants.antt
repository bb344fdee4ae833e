use Rattle.std.proofs.Common.{◌≡◌, ◌++◌, map, length}
use Rattle.sx_heads.specs.Signatures.{as_signature}
use Rattle.sx_heads.proofs.signatures.as_signature.Given as goal

abbrev pub invariant-parameters : goal.invariant-parameters
invariant-parameters l = l.seen ++ map as_signature l.parameters ≡ map as_signature l.fn.parameters

abbrev pub decreases-parameters : goal.decreases-parameters
decreases-parameters l = length l.parameters
