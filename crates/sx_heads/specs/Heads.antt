-- The heads of functions and subscripts (The Swift Programming Language, "Declarations").
use Rattle.std.specs.Prelude.{ℕ, Bool, true, false, not, ◌&&◌, ◌||◌, List, [], ◌∷◌, ◌++◌, map, length, Option, Some, None, cond}
use Rattle.sx_span.specs.declared.places.Node.{Node}
use Rattle.sx_tree.specs.declared.declarations.Marker.{Marker}
use Rattle.sx_tree.specs.declared.declarations.Marker.TheVariants as marker
use Rattle.sx_tree.specs.declared.declarations.Parameter.{Parameter}
use Rattle.sx_tree.specs.declared.written_types.Name.{Name}
use Rattle.sx_tree.specs.declared.written_types.WrittenType.{WrittenType}
use Rattle.sx_types.specs.declared.types.Ty.{Ty}
use Rattle.sx_types.specs.declared.types.Ty.TheVariants as ty
use Rattle.sx_typed.specs.declared.program.Marker.{Marker as Passing}
use Rattle.sx_typed.specs.declared.program.Marker.TheVariants as passing
use Rattle.sx_scope.specs.declared.stop.TypeKind.{TypeKind}
use Rattle.sx_scope.specs.declared.stop.TypeKind.TheVariants as kind
use Rattle.sx_scope.specs.declared.declarations.Declarations.{Declarations}
use Rattle.sx_scope.specs.declared.declarations.Known.{Known}
use Rattle.sx_scope.specs.declared.declarations.Known.TheVariants as known
use Rattle.sx_scope.specs.declared.walk.Local.{Local}
use Rattle.sx_scope.specs.declared.walk.LocalKind.{LocalKind}
use Rattle.sx_scope.specs.declared.walk.LocalKind.TheVariants as local_kind
use Rattle.sx_scope.specs.declared.walk.Walk.{Walk}
use Rattle.sx_scope.specs.Verdict.{Verdict, typed, untold, depends, fails, Judging, ◌▷◌, both, moved, unless_broken}
use Rattle.sx_scope.specs.Walks.{numbered}
use Rattle.sx_scope.specs.Names.{is_function}
use Rattle.sx_scope.specs.WrittenTypes.{is_void, judged_type}
use Rattle.sx_bodies.specs.Statements.{fresh, unless_taken, local_named}
use Rattle.sx_heads.specs.declared.parameters.HeadParameter.{HeadParameter}
use Rattle.sx_heads.specs.declared.parameters.ParameterList.{ParameterList}
use Rattle.sx_heads.specs.declared.parameters.ParameterList.TheVariants as lists

-- a walk that stands before this node, with nothing in scope
abbrev pub at : ℕ → Walk
at n = record { next = n; locals = []; mentions = []; literals = [] }

-- what is typed, if anything
abbrev pub typed_value : {A : Type 0} → Verdict A → Option A
typed_value (typed a w) = Some a
typed_value (untold w) = None
typed_value (depends w) = None
typed_value (fails f fs w) = None

abbrev pub passing_of : Marker → Passing
passing_of marker.Plain = passing.Plain
passing_of marker.InOut = passing.InOut
passing_of marker.Escaping = passing.Escaping
passing_of marker.Borrowing = passing.Borrowing

abbrev pub label_of : Option Name → Option ℕ
label_of None = None
label_of (Some x) = Some x.number

-- a parameter with its type
abbrev pub head_parameter : Node → Parameter → Ty → HeadParameter
head_parameter n p t =
    record { label = label_of p.label; parameter = record { node = n; name = Some p.name.number; marker = passing_of p.marker; ty = t } }

abbrev pub typed_as : Node → Parameter → Ty → Judging HeadParameter
typed_as n p t = typed (head_parameter n p t)

-- parameters one after another, behind those that were found
abbrev pub parameter_added : List HeadParameter × HeadParameter → Judging (List HeadParameter)
parameter_added (ps, p) = typed (ps ++ p ∷ [])

abbrev pub run_parameters : Verdict (List HeadParameter) → List (Judging HeadParameter) → Verdict (List HeadParameter)
run_parameters v [] = v
run_parameters v (p ∷ ps) = run_parameters (both v p ▷ parameter_added) ps

-- ---- the conditions on a parameter's type, in the order of their kinds: it isn't `Void`, `@escaping` marks a function type, and
-- a subscript takes no function
abbrev pub is_escaping : Marker → Bool
is_escaping marker.Escaping = true
is_escaping m = false

abbrev pub is_borrowing : Marker → Bool
is_borrowing marker.Borrowing = true
is_borrowing m = false

abbrev pub may_not_be : ParameterList → Marker → Ty → Bool
may_not_be lists.OfFunction m t = is_void t || (is_borrowing m && is_function t)
may_not_be lists.OfSubscript m t = is_void t || is_function t

abbrev pub broken_parameter : ParameterList → Marker → Ty → Option TypeKind
broken_parameter l m t =
    cond (may_not_be l m t) (Some kind.Mismatch) (cond (is_escaping m && not (is_function t)) (Some kind.EscapingUse) None)

abbrev pub fitting : ParameterList → Node → Parameter → Unit {0} × Ty → Judging HeadParameter
fitting l n p (u, t) = unless_broken (broken_parameter l p.marker t) n (typed (head_parameter n p t))

-- ---- a parameter comes into scope
abbrev pub parameter_kind : Marker → LocalKind
parameter_kind marker.InOut = local_kind.InOut
parameter_kind m = local_kind.Constant

abbrev pub is_plain : Marker → Bool
is_plain marker.Plain = true
is_plain m = false

-- a function that is passed by value and not marked isn't kept
abbrev pub is_lent : Marker → Known → Bool
is_lent m (known.Type t) = is_plain m && is_function t
is_lent m k = false

abbrev pub known_parameter : Verdict HeadParameter → Known
known_parameter (typed p w) = known.Type p.parameter.ty
known_parameter (untold w) = known.Untold
known_parameter (depends w) = known.Failed
known_parameter (fails f fs w) = known.Failed

abbrev pub parameter_local : Node → Parameter → Known → Local
parameter_local n p k = local_named p.name.number n (parameter_kind p.marker) (is_lent p.marker k) k

abbrev pub declares_parameter : ℕ → Node → Parameter → Verdict HeadParameter → Verdict HeadParameter
declares_parameter from n p v = moved (unless_taken from (parameter_local n p (known_parameter v))) v

module _ (d : Declarations) where
  -- the result: `Void` where none is written
  abbrev pub result_type : Option WrittenType → Judging Ty
  result_type None w = typed ty.Void w
  result_type (Some t) w = judged_type d t w

  -- a head by its types alone, as calls see it
  abbrev pub typed_parameter : Parameter → Judging HeadParameter
  typed_parameter p = numbered (λ n w. judged_type d p.ty w ▷ typed_as n p)

  abbrev pub typed_head : List Parameter → Option WrittenType → Judging (List HeadParameter × Ty)
  typed_head ps r w = both (run_parameters (typed [] w) (map typed_parameter ps)) (result_type r)

  -- a head with the conditions on its parameters, which come into scope
  abbrev pub checked_parameter : ParameterList → ℕ → Parameter → Judging HeadParameter
  checked_parameter l from p =
      numbered (λ n w. declares_parameter from n p (both (fresh d from p.name.number n w) (judged_type d p.ty) ▷ fitting l n p))

  abbrev pub checked_head : ParameterList → List Parameter → Option WrittenType → Judging (List HeadParameter × Ty)
  checked_head l ps r w = both (run_parameters (typed [] w) (map (checked_parameter l (length w.locals)) ps)) (result_type r)
