use Rattle.std.proofs.Common.{◌≡◌, ◌++◌, drop, map}
use Rattle.sx_tree.specs.Nodes.{all, type_parameter_places}
use Rattle.sx_tree.proofs.nodes.+types.Given as goal

abbrev pub invariant-put_type_parameters-loop-parameter : goal.invariant-put_type_parameters-loop-parameter
invariant-put_type_parameters-loop-parameter l = l.places.items ++ all (map type_parameter_places (drop l.parameter-index l.parameters)) ≡ l.fn.places.items ++ all (map type_parameter_places l.parameters)
