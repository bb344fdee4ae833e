use Rattle.std.proofs.Common.{◌≡◌, ◌++◌, drop, map}
use Rattle.sx_tree.specs.Nodes.{own_of_parts, part_nodes}
use Rattle.sx_tree.proofs.nodes.put_own_of_parts.Given as goal

abbrev pub invariant-loop-part : goal.invariant-loop-part
invariant-loop-part l = l.places.items ++ own_of_parts (map part_nodes (drop l.part-index l.parts)) l.start ≡ l.fn.places.items ++ own_of_parts (map part_nodes l.parts) l.start
