-- The nodes that a typed program keeps for what is told later: all lie below a number.
use Rattle.std.specs.Prelude.{ℕ, ◌<◌, List, [], ◌∷◌, Option, Some, None, map}
use Rattle.sx_span.specs.declared.places.Node.{Node}
use Rattle.sx_typed.specs.declared.code.Expr.{Expr}
use Rattle.sx_members.specs.declared.variables.TypedVariable.{TypedVariable}
use Rattle.sx_check_decl.specs.declared.items.Program.{Program}
use Rattle.sx_check_decl.specs.declared.items.TypedItem.{TypedItem}
use Rattle.sx_check_decl.specs.declared.items.TypedItem.TheVariants as typed_items
use Rattle.sx_check_decl.specs.Program.{node_of_global}

abbrev pub NodesBelow : ℕ → List Node → Type 0
NodesBelow hi [] = Unit {0}
NodesBelow hi (n ∷ ns) = (n.0 < hi) × NodesBelow hi ns

-- that of an initial value
abbrev pub ValueBelow : ℕ → Option Expr → Type 0
ValueBelow hi None = Unit {0}
ValueBelow hi (Some e) = e.node.0 < hi

-- those of a variable: of its declaration and of its initial value
abbrev pub VariableBelow : ℕ → TypedVariable → Type 0
VariableBelow hi v = (v.node.0 < hi) × ValueBelow hi v.value

-- those of an item of the outermost level
abbrev pub ItemBelow : ℕ → TypedItem → Type 0
ItemBelow hi typed_items.Nothing = Unit {0}
ItemBelow hi (typed_items.Structure t) = Unit {0}
ItemBelow hi (typed_items.Class t) = Unit {0}
ItemBelow hi (typed_items.Global x constant v) = VariableBelow hi v
ItemBelow hi (typed_items.Statement n s) = n.0 < hi

-- those at which statements of the outermost level start, and those of the stored globals
abbrev pub ProgramBelow : ℕ → Program → Type 0
ProgramBelow hi p = NodesBelow hi p.starts × NodesBelow hi (map node_of_global p.globals)
