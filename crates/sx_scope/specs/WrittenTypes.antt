-- What a written type means (The Swift Programming Language, "Types").
use Rattle.std.specs.Prelude.{ℕ, Bool, true, false, not, ◌&&◌, ◌||◌, List, [], ◌∷◌, ◌++◌, Option, Some, None, cond}
use Rattle.sx_scope.specs.Tables.{entry}
use Rattle.sx_span.specs.declared.places.Node.{Node}
use Rattle.sx_tree.specs.declared.written_types.WrittenType.{WrittenType, fold-WrittenType, WrittenType-F}
use Rattle.sx_tree.specs.declared.written_types.TypeForm.{TypeForm-F}
use Rattle.sx_tree.specs.declared.written_types.TypeParameter.{TypeParameter, TypeParameter-F}
pub use Rattle.sx_types.specs.Same.{number_of}
use Rattle.sx_types.specs.declared.types.FunctionParameter.{FunctionParameter}
use Rattle.sx_types.specs.declared.types.FunctionType.{FunctionType}
use Rattle.sx_types.specs.declared.types.Ty.{Ty}
use Rattle.sx_types.specs.declared.types.Ty.TheVariants as ty
use Rattle.sx_scope.specs.declared.stop.TypeKind.TheVariants as kind
use Rattle.sx_scope.specs.declared.declarations.Declarations.{Declarations}
use Rattle.sx_scope.specs.declared.declarations.TypeName.{TypeName}
use Rattle.sx_scope.specs.declared.declarations.TypeName.TheVariants as type_name
use Rattle.sx_scope.specs.Verdict.{Verdict, typed, depends, Judging, ◌▷◌, both, need, fault}
use Rattle.sx_scope.specs.Walks.{numbered}
use Rattle.sx_scope.specs.Names.{is_function, type_failed}

abbrev pub is_void : Ty → Bool
is_void ty.Void = true
is_void t = false

-- no parameter of a function value has the type `Void` or is a function
abbrev pub may_be_parameter : Ty → Bool
may_be_parameter t = not (is_void t || is_function t)

abbrev pub may_be_parameters : List FunctionParameter → Bool
may_be_parameters [] = true
may_be_parameters (p ∷ ps) = may_be_parameter p.ty && may_be_parameters ps

abbrev pub function_type : List FunctionParameter → Ty → FunctionType
function_type ps r = record { parameters = ps; result = r }

abbrev pub func_by : Option ℕ → Judging Ty
func_by None = depends
func_by (Some f) = typed (ty.Func f)

-- a parameter of a function type
abbrev pub JudgedParameter : Type 0
JudgedParameter = Judging FunctionParameter

abbrev pub parameter_added : List FunctionParameter × FunctionParameter → Judging (List FunctionParameter)
parameter_added (ps, p) = typed (ps ++ p ∷ [])

-- parameters one after another, behind those that were found
abbrev pub run_parameters : Verdict (List FunctionParameter) → List JudgedParameter → Verdict (List FunctionParameter)
run_parameters v [] = v
run_parameters v (p ∷ ps) = run_parameters (both v p ▷ parameter_added) ps

abbrev pub type_parameter_step : TypeParameter-F (Judging Ty) JudgedParameter (Judging Ty) → JudgedParameter
type_parameter_step p w = p.ty w ▷ (λ t. typed (record { inout = p.inout; ty = t }))

module _ (d : Declarations) where
  abbrev pub named_type : Node → Option TypeName → Judging Ty
  named_type n None = fault kind.UnknownName n
  named_type n (Some type_name.Failed) = depends
  named_type n (Some (type_name.Type t)) = cond (type_failed d t) depends (typed t)

  abbrev pub type_named : Node → ℕ → Judging Ty
  type_named n x = named_type n (entry d.type_names x)

  abbrev pub function_made : Node → List FunctionParameter × Ty → Judging Ty
  function_made n (ps, r) = need (may_be_parameters ps) kind.Mismatch n (func_by (number_of d.types.functions (function_type ps r)))

  abbrev pub function_step : Node → List JudgedParameter → Judging Ty → Judging Ty
  function_step n ps r w = both (run_parameters (typed [] w) ps) r ▷ function_made n

  abbrev pub type_form_step : TypeForm-F (Judging Ty) JudgedParameter (Judging Ty) → Judging Ty
  type_form_step (TypeForm-F.Named x) = numbered (λ n. type_named n x)
  type_form_step TypeForm-F.Unit = numbered (λ n. typed ty.Void)
  type_form_step (TypeForm-F.Bracketed t) = numbered (λ n. t)
  type_form_step (TypeForm-F.Function ps r) = numbered (λ n. function_step n ps r)
  type_form_step (TypeForm-F.Array x) = numbered (λ n. typed ty.Array)

  abbrev pub type_step : WrittenType-F (Judging Ty) JudgedParameter (Judging Ty) → Judging Ty
  type_step t = t.form

  abbrev pub judged_type : WrittenType → Judging Ty
  judged_type = fold-WrittenType (Judging Ty) JudgedParameter (Judging Ty) type_form_step type_parameter_step type_step

  abbrev pub judged_parameter : TypeParameter → JudgedParameter
  judged_parameter p w = judged_type p.ty w ▷ (λ t. typed (record { inout = p.inout; ty = t }))

  -- a type that may be written
  abbrev pub judged_option : Option WrittenType → Judging (Option Ty)
  judged_option None w = typed None w
  judged_option (Some t) w = judged_type t w ▷ (λ t. typed (Some t))
