-- The arguments of a call, with a closure literal behind it as the last.
use Rattle.std.specs.Prelude.{ℕ, Bool, true, false, List, [], ◌∷◌, ◌++◌, map, Option, Some, None, option_map}
use Rattle.sx_tree.specs.declared.code.Argument.{Argument}
use Rattle.sx_tree.specs.declared.code.Closure.{Closure}
use Rattle.sx_tree.specs.declared.written_types.Name.{Name}
use Rattle.sx_scope.specs.declared.declarations.Declarations.{Declarations}
use Rattle.sx_calls.specs.Parts.{JudgedArgument, trailing, trailing_shape}
use Rattle.sx_calls.specs.declared.passed.Shape.{Shape}
use Rattle.sx_check_expr.specs.Judge.{judged_argument, judged_closure}

abbrev pub trailing_argument : Declarations → Closure → JudgedArgument
trailing_argument d c = record { shape = trailing_shape; value = judged_closure d c }

abbrev pub judged_arguments : Declarations → List Argument → Option Closure → List JudgedArgument
judged_arguments d as_ c = map (judged_argument d) as_ ++ trailing (option_map (judged_closure d) c)

-- how they are written
abbrev pub number_of_label : Option Name → Option ℕ
number_of_label None = None
number_of_label (Some x) = Some x.number

abbrev pub shape_of : Argument → Shape
shape_of a = record { label = number_of_label a.label; ampersand = a.ampersand; trailing = false }

abbrev pub trailing_shapes : Option Closure → List Shape
trailing_shapes None = []
trailing_shapes (Some c) = trailing_shape ∷ []

abbrev pub shapes_of : List Argument → Option Closure → List Shape
shapes_of as_ c = map shape_of as_ ++ trailing_shapes c
