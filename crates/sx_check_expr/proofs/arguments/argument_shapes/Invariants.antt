use Rattle.std.proofs.Common.{◌≡◌, ◌++◌, map, length}
use Rattle.sx_check_expr.specs.Arguments.{shape_of}
use Rattle.sx_check_expr.proofs.arguments.argument_shapes.Given as goal

abbrev pub invariant-arguments : goal.invariant-arguments
invariant-arguments l = l.shapes.items ++ map shape_of l.arguments ≡ map shape_of l.fn.arguments

abbrev pub decreases-arguments : goal.decreases-arguments
decreases-arguments l = length l.arguments
