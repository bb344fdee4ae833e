-- Functions and methods (The Swift Programming Language, "Functions", "Methods").
use Rattle.std.specs.Prelude.{ℕ, Bool, not, List, [], map, length, Option, Some, None, cond}
use Rattle.sx_span.specs.declared.places.Node.{Node}
use Rattle.sx_tree.specs.declared.declarations.Function.{Function}
use Rattle.sx_types.specs.declared.types.Ty.{Ty}
use Rattle.sx_typed.specs.declared.code.Statement.{Statement}
use Rattle.sx_typed.specs.declared.program.Function.{Function as TypedFunction}
use Rattle.sx_typed.specs.declared.program.FunctionKind.{FunctionKind}
use Rattle.sx_typed.specs.declared.program.FunctionKind.TheVariants as function_kind
use Rattle.sx_typed.specs.declared.program.Parameter.{Parameter}
use Rattle.sx_scope.specs.declared.stop.TypeKind.TheVariants as kind
use Rattle.sx_scope.specs.declared.declarations.Declarations.{Declarations}
use Rattle.sx_scope.specs.declared.walk.Gives.{Gives}
use Rattle.sx_scope.specs.declared.walk.Gives.TheVariants as gives
use Rattle.sx_scope.specs.Verdict.{typed, Judging, ◌▷◌, both, both_by, need, need_narrow, moved}
use Rattle.sx_scope.specs.Walks.{numbered}
use Rattle.sx_bodies.specs.Statements.{lacks_return}
use Rattle.sx_bodies.specs.Literals.{with_literal}
use Rattle.sx_check_expr.specs.Judge.{judged_block}
use Rattle.sx_heads.specs.declared.parameters.HeadParameter.{HeadParameter}
use Rattle.sx_heads.specs.declared.parameters.ParameterList.TheVariants as lists
use Rattle.sx_heads.specs.Heads.{checked_head}
use Rattle.sx_heads.specs.Widths.{is_narrow_head}
use Rattle.sx_functions.specs.Places.{body_place, body_value, left, new_name}

-- a head, and the statements of the body
abbrev pub FunctionParts : Type 0
FunctionParts = (List HeadParameter × Ty) × List Statement

-- a head has too many words at the function
abbrev pub narrow_head : Declarations → Option Ty → Node → Function → List HeadParameter × Ty → Judging (List HeadParameter × Ty)
narrow_head d owner n f h = need_narrow (is_narrow_head d.types f.mutating owner h.0) n (typed h)

abbrev pub given_by : Option (List HeadParameter × Ty) → Gives
given_by None = gives.Unknown
given_by (Some h) = gives.Type h.1

abbrev pub function_parts : Declarations → Option Ty → Node → Function → Judging FunctionParts
function_parts d owner n f w =
    both_by (checked_head d lists.OfFunction f.parameters f.result w ▷ narrow_head d owner n f) (λ h. body_value d (body_place owner f.mutating None (given_by h)) f.body)

-- its body gives a value
abbrev pub returning : Declarations → Node → Function → Unit {0} × FunctionParts → Judging FunctionParts
returning d n f (u, (h, ss)) = need (not (lacks_return (gives.Type h.1) (judged_block d f.body))) kind.MissingReturn n (typed (h, ss))

abbrev pub kind_of : Option Ty → Bool → FunctionKind
kind_of None mutating = function_kind.Function
kind_of (Some t) mutating = cond mutating function_kind.MutatingMethod function_kind.Method

abbrev pub parameter_of : HeadParameter → Parameter
parameter_of p = p.parameter

abbrev pub typed_function : Option Ty → Node → Function → FunctionParts → TypedFunction
typed_function owner n f (h, ss) =
    record { kind = kind_of owner f.mutating; node = n; owner = owner; parameters = map parameter_of h.0; result = h.1; body = ss; mentions = [] }

-- a function comes before the literals that stand in it
abbrev pub function_added : Option Ty → Node → Function → ℕ → FunctionParts → Judging (Unit {0})
function_added owner n f before x w = typed tt (with_literal before (typed_function owner n f x) w)

-- a function, or a method of the owner, beside what has these names
abbrev pub function : Declarations → Option Ty → List ℕ → Function → Judging (Unit {0})
function d owner seen f =
    numbered (λ n w. moved (left w) (both (new_name d seen f.name.number n w) (function_parts d owner n f) ▷ returning d n f) ▷ function_added owner n f (length w.literals))
