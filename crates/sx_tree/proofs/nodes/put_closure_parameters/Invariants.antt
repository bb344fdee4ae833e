use Rattle.std.proofs.Common.{◌≡◌, ◌++◌, drop, map}
use Rattle.sx_tree.specs.Nodes.{all, closure_parameter_places}
use Rattle.sx_tree.proofs.nodes.put_closure_parameters.Given as goal

abbrev pub invariant-loop-parameter : goal.invariant-loop-parameter
invariant-loop-parameter l = l.places.items ++ all (map closure_parameter_places (drop l.parameter-index l.parameters)) ≡ l.fn.places.items ++ all (map closure_parameter_places l.parameters)
