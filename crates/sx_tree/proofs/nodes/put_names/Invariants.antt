use Rattle.std.proofs.Common.{◌≡◌, ◌++◌, drop, map}
use Rattle.sx_tree.specs.Nodes.{all, name_places}
use Rattle.sx_tree.proofs.nodes.put_names.Given as goal

abbrev pub invariant-loop-name : goal.invariant-loop-name
invariant-loop-name l = l.places.items ++ all (map name_places (drop l.name-index l.names)) ≡ l.fn.places.items ++ all (map name_places l.names)
