use Rattle.std.proofs.Common.{◌≡◌, ◌++◌, drop, map}
use Rattle.sx_tree.specs.Nodes.{link_places, own_of_links}
use Rattle.sx_tree.proofs.nodes.put_own_of_links.Given as goal

abbrev pub invariant-loop-link : goal.invariant-loop-link
invariant-loop-link l = l.places.items ++ own_of_links (map link_places (drop l._link-index l.links)) l.start ≡ l.fn.places.items ++ own_of_links (map link_places l.links) l.start
