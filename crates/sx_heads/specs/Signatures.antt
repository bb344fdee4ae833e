-- Functions and subscripts, as calls see them.
use Rattle.std.specs.Prelude.{ℕ, suc, Bool, true, false, not, ◌||◌, List, [], map, Option, Some, None, cond}
use Rattle.std.specs.List.{list_any}
use Rattle.sx_span.specs.declared.places.Node.{Node}
use Rattle.sx_tree.specs.declared.declarations.Function.{Function}
use Rattle.sx_tree.specs.declared.declarations.Subscript.{Subscript as WrittenSubscript}
use Rattle.sx_types.specs.declared.types.FunctionParameter.{FunctionParameter}
use Rattle.sx_types.specs.declared.types.Ty.{Ty}
use Rattle.sx_types.specs.declared.types.Ty.TheVariants as ty
use Rattle.sx_typed.specs.declared.code.Accessors.{Accessors}
use Rattle.sx_typed.specs.declared.program.Marker.{Marker}
use Rattle.sx_typed.specs.declared.program.Marker.TheVariants as passing
use Rattle.sx_scope.specs.declared.declarations.Declarations.{Declarations}
use Rattle.sx_scope.specs.declared.declarations.Signature.{Signature}
use Rattle.sx_scope.specs.declared.declarations.SignatureParameter.{SignatureParameter}
use Rattle.sx_scope.specs.declared.declarations.Subscript.{Subscript}
use Rattle.sx_scope.specs.Verdict.{Verdict, typed, untold, depends, fails}
use Rattle.sx_scope.specs.Names.{is_function}
use Rattle.sx_scope.specs.WrittenTypes.{is_void, number_of, function_type}
use Rattle.sx_heads.specs.declared.parameters.HeadParameter.{HeadParameter}
use Rattle.sx_heads.specs.declared.parameters.ParameterList.TheVariants as lists
use Rattle.sx_heads.specs.Heads.{at, typed_head, checked_head}
use Rattle.sx_heads.specs.Widths.{is_narrow_head}

abbrev pub as_signature : HeadParameter → SignatureParameter
as_signature p = record { label = p.label; marker = p.parameter.marker; ty = p.parameter.ty }

abbrev pub is_inout : Marker → Bool
is_inout passing.InOut = true
is_inout m = false

abbrev pub as_value : HeadParameter → FunctionParameter
as_value p = record { inout = is_inout p.parameter.marker; ty = p.parameter.ty }

abbrev pub is_marked : Marker → Bool
is_marked passing.Escaping = true
is_marked passing.Borrowing = true
is_marked m = false

-- a function that takes functions isn't a value
abbrev pub stays_a_function : HeadParameter → Bool
stays_a_function p = is_marked p.parameter.marker || is_function p.parameter.ty

abbrev pub failed_signature : Node → Bool → Signature
failed_signature n mutating = record { node = n; mutating = mutating; failed = true; parameters = []; result = ty.Void; value = None }

abbrev pub is_too_wide : Declarations → Bool → Option Ty → Verdict (List HeadParameter × Ty) → Bool
is_too_wide d mutating owner (typed h w) = not (is_narrow_head d.types mutating owner h.0)
is_too_wide d mutating owner (untold w) = false
is_too_wide d mutating owner (depends w) = false
is_too_wide d mutating owner (fails f fs w) = false

-- the number of its function type, where it may be taken as a value
abbrev pub value_number : Declarations → List HeadParameter → Ty → Option ℕ
value_number d ps r = cond (list_any stays_a_function ps) None (number_of d.types.functions (function_type (map as_value ps) r))

abbrev pub sound_signature : Declarations → Node → Bool → List HeadParameter × Ty → Signature
sound_signature d n mutating (ps, r) =
    record { node = n; mutating = mutating; failed = false; parameters = map as_signature ps; result = r; value = value_number d ps r }

-- A function has failed where a type in its head fails or depends on what has failed, and where its parameters are too wide.
abbrev pub signature_by : Declarations → Node → Bool → Bool → Verdict (List HeadParameter × Ty) → Signature
signature_by d n mutating wide (typed h w) = cond wide (failed_signature n mutating) (sound_signature d n mutating h)
signature_by d n mutating wide (untold w) = failed_signature n mutating
signature_by d n mutating wide (depends w) = failed_signature n mutating
signature_by d n mutating wide (fails f fs w) = failed_signature n mutating

-- the function at node n, a member of the owner if there is one
abbrev pub signature : Declarations → Option Ty → Node → Function → Signature
signature d owner n f =
    signature_by d n f.mutating (is_too_wide d f.mutating owner (checked_head d lists.OfFunction f.parameters f.result (at (suc n.0)))) (typed_head d f.parameters f.result (at (suc n.0)))

abbrev pub type_of : HeadParameter → Ty
type_of p = p.parameter.ty

abbrev pub failed_subscript : Node → Accessors → Subscript
failed_subscript n a = record { node = n; failed = true; parameters = []; ty = ty.Void; accessors = a }

-- a subscript has failed where a type in its head fails or depends on what has failed, and where its result is `Void`
abbrev pub subscript_by : Node → Accessors → Verdict (List HeadParameter × Ty) → Subscript
subscript_by n a (typed h w) =
    cond (is_void h.1) (failed_subscript n a) (record { node = n; failed = false; parameters = map type_of h.0; ty = h.1; accessors = a })
subscript_by n a (untold w) = failed_subscript n a
subscript_by n a (depends w) = failed_subscript n a
subscript_by n a (fails f fs w) = failed_subscript n a

-- the subscript at node n
abbrev pub subscript : Declarations → Node → Accessors → WrittenSubscript → Subscript
subscript d n a s = subscript_by n a (typed_head d s.parameters (Some s.result) (at (suc n.0)))
