use Rattle.std.proofs.Common.{◌≡◌, ◌++◌, length}
use Rattle.sx_nodes.specs.Pieces.{in_parts}
use Rattle.sx_nodes.specs.Stacks.{walked}
use Rattle.sx_nodes.proofs.stacks.push_in_parts.Given as goal

abbrev pub invariant-parts : goal.invariant-parts
invariant-parts l = in_parts l.parts ++ walked l.open.items ≡ in_parts l.fn.parts ++ walked l.fn.open.items

abbrev pub decreases-parts : goal.decreases-parts
decreases-parts l = length l.parts
