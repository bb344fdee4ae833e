use Rattle.std.proofs.Common.{◌≡◌, length}
use Rattle.sx_heads.specs.Variables.{accessor_node}
use Rattle.sx_heads.proofs.variables.accessor_node.Given as goal

abbrev pub invariant-accessors : goal.invariant-accessors
invariant-accessors l = accessor_node l.kind l.accessors l.nodes ≡ accessor_node l.kind l.fn.accessors l.fn.nodes

abbrev pub decreases-accessors : goal.decreases-accessors
decreases-accessors l = length l.accessors
