use Rattle.std.proofs.Common.{◌≡◌, ◌++◌, drop, map}
use Rattle.sx_tree.specs.Nodes.{all, member_places}
use Rattle.sx_tree.proofs.nodes.put_members.Given as goal

abbrev pub invariant-loop-member : goal.invariant-loop-member
invariant-loop-member l = l.places.items ++ all (map (member_places l.of) (drop l.member-index l.members)) ≡ l.fn.places.items ++ all (map (member_places l.of) l.members)
