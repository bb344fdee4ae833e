use Rattle.std.proofs.Common.{◌≡◌, ◌++◌, drop, map}
use Rattle.sx_tree.specs.Nodes.{accessor_places, all}
use Rattle.sx_tree.proofs.nodes.put_accessors.Given as goal

abbrev pub invariant-loop-accessor : goal.invariant-loop-accessor
invariant-loop-accessor l = l.places.items ++ all (map (accessor_places l.of l.place) (drop l.accessor-index l.accessors)) ≡ l.fn.places.items ++ all (map (accessor_places l.of l.place) l.accessors)
