use Rattle.std.proofs.Common.{◌≡◌, ◌++◌, length, map}
use Rattle.sx_nodes.specs.Stacks.{walked}
use Rattle.sx_nodes.proofs.stacks.push_all.Given as goal

abbrev pub invariant-items : goal.invariant-items
invariant-items g l = map g.T.MakesNodes.stands_for l.items ++ walked l.open.items ≡ map g.T.MakesNodes.stands_for l.fn.items ++ walked l.fn.open.items

abbrev pub decreases-items : goal.decreases-items
decreases-items g l = length l.items
