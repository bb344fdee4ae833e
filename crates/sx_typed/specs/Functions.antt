-- The functions of a program, told by their nodes.
use Rattle.std.specs.Prelude.{◌==◌, List, map, find, Option}
use Rattle.std.specs.List.Sorted.{IsStrictlyIncreasing}
use Rattle.sx_span.specs.declared.places.Node.{Node}
use Rattle.sx_typed.specs.declared.program.Function.{Function}

-- each node is less than the next, so no two functions have one node
abbrev pub RiseByNode : List Function → Type 0
RiseByNode functions = IsStrictlyIncreasing (map (λ (f : Function). f.node.0) functions)

-- the function with this node
abbrev pub function_at : List Function → Node → Option Function
function_at functions node = find (λ (f : Function). f.node.0 == node.0) functions
