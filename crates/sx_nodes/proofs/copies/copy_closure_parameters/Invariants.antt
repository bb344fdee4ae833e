use Rattle.std.proofs.Common.{◌≡◌, ◌++◌, drop}
use Rattle.sx_nodes.proofs.copies.copy_closure_parameters.Given as goal

abbrev pub invariant-loop-parameter : goal.invariant-loop-parameter
invariant-loop-parameter l = l.copies ++ drop l.parameter-index l.parameters ≡ l.parameters
