-- The judgement of a written function type, by those of its parts.
use Rattle.std.proofs.Common.{◌≡◌, ◌∙◌, List, map, ap}
use Rattle.sx_span.specs.declared.places.Span.{Span}
use Rattle.sx_types.specs.declared.types.Ty.{Ty}
use Rattle.sx_tree.specs.declared.written_types.TypeForm.{fold-roll-TypeForm}
use Rattle.sx_tree.specs.declared.written_types.TypeForm.TheOpen as layer
use Rattle.sx_tree.specs.declared.written_types.TypeForm.TheVariants as form
use Rattle.sx_tree.specs.declared.written_types.TypeParameter.{TypeParameter, fold-TypeParameter, fold_out-TypeParameter}
use Rattle.sx_tree.specs.declared.written_types.WrittenType.{WrittenType, fold_out-WrittenType}
use Rattle.sx_scope.specs.declared.declarations.Declarations.{Declarations}
use Rattle.sx_scope.specs.Verdict.{Judging}
use Rattle.sx_scope.specs.Walks.{numbered}
use Rattle.sx_scope.specs.WrittenTypes.{JudgedParameter, judged_type, judged_parameter, function_step, type_form_step, type_parameter_step, type_step}

parameter_is : (d : Declarations) (p : TypeParameter) →
    fold-TypeParameter (Judging Ty) JudgedParameter (Judging Ty) (type_form_step d) type_parameter_step (type_step d) p ≡ judged_parameter d p
parameter_is d p = fold_out-TypeParameter (Judging Ty) JudgedParameter (Judging Ty) (type_form_step d) type_parameter_step (type_step d) p

pub judged_function : (d : Declarations) (s : Span) (ps : List TypeParameter) (r : WrittenType) →
    judged_type d (record { span = s; form = form.Function ps r }) ≡ numbered (λ n. function_step d n (map (judged_parameter d) ps) (judged_type d r))
unfolding Rattle.sx_tree.specs.declared.written_types.TypeForm.TheViews.roll-TypeForm denote.Hole.Carrier.roll
judged_function d s ps r =
    fold_out-WrittenType (Judging Ty) JudgedParameter (Judging Ty) (type_form_step d) type_parameter_step (type_step d) (record { span = s; form = form.Function ps r })
    ∙ fold-roll-TypeForm (Judging Ty) JudgedParameter (Judging Ty) (type_form_step d) type_parameter_step (type_step d) (layer.Function ps r)
    ∙ ap (λ (judge : TypeParameter → JudgedParameter). numbered (λ n. function_step d n (map judge ps) (judged_type d r))) (λ i p. parameter_is d p i)
