use Rattle.std.proofs.Common.{◌≡◌, ◌++◌, drop}
use Rattle.sx_nodes.proofs.copies.+types.Given as goal

abbrev pub invariant-copy_type_parameters-loop-parameter : goal.invariant-copy_type_parameters-loop-parameter
invariant-copy_type_parameters-loop-parameter l = l.copies ++ drop l.parameter-index l.parameters ≡ l.parameters
