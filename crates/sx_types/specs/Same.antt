-- When two types are the same, and the number of a function type.
use Rattle.std.specs.Prelude.{ℕ, Bool, true, false, not, ◌&&◌, ◌==◌, cond, List, [], ◌∷◌, Option, position}
use Rattle.sx_types.specs.declared.types.FunctionParameter.{FunctionParameter}
use Rattle.sx_types.specs.declared.types.FunctionType.{FunctionType}
use Rattle.sx_types.specs.declared.types.Ty.{Ty}
use Rattle.sx_types.specs.declared.types.Ty.TheVariants as ty

abbrev pub same : Ty → Ty → Bool
same ty.Int ty.Int = true
same ty.Bool ty.Bool = true
same ty.Void ty.Void = true
same ty.Array ty.Array = true
same (ty.Struct x) (ty.Struct y) = x == y
same (ty.Class x) (ty.Class y) = x == y
same (ty.Func x) (ty.Func y) = x == y
same a b = false

abbrev pub same_parameter : FunctionParameter → FunctionParameter → Bool
same_parameter p q = cond p.inout q.inout (not q.inout) && same p.ty q.ty

abbrev pub same_parameters : List FunctionParameter → List FunctionParameter → Bool
same_parameters [] [] = true
same_parameters (p ∷ ps) (q ∷ qs) = same_parameter p q && same_parameters ps qs
same_parameters ps qs = false

abbrev pub same_function : FunctionType → FunctionType → Bool
same_function f g = same_parameters f.parameters g.parameters && same f.result g.result

-- the place of a function type among those that are numbered
abbrev pub number_of : List FunctionType → FunctionType → Option ℕ
number_of types f = position (same_function f) types
