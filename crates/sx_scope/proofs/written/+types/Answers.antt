use Rattle.std.proofs.Common.{◌≡◌, ◌∙◌, ◌+◌, ap, sym, subst, map, drop}
use Rattle.std.proofs.lemmas.Result.{err_from_is_err_and}
use Rattle.sx_tree.specs.declared.written_types.TypeForm.{TypeForm}
use Rattle.sx_tree.specs.declared.written_types.TypeForm.TheVariants as form
use Rattle.sx_scope.specs.Verdict.{Answers, found}
use Rattle.sx_scope.specs.Walks.{node}
use Rattle.sx_scope.specs.WrittenTypes.{judged_type, judged_parameter, function_step, run_parameters}
use Rattle.sx_scope.proofs.written.+types.Goals as goal
use Rattle.sx_scope.proofs.Equations.{judged_function}
use Rattle.sx_scope.proofs.Turns.{turn_goes, turn_fails, next_item}

pub parameters_written-turns-preserved : goal.parameters_written-turns-preserved
parameters_written-turns-preserved t c =
    let j = judged_parameter c.args.declarations.now in
    let e = next_item c.args.parameters.now c.turns.parameter-index c.parameter-item.result c.turns-test.true c.parameter-item.is in
    turn_goes c.turns.all c.in_ok-all.all c.in_ok-one.one c.turns.walk c.parameter_written.new.walk (j c.parameter-item.result) (map j (drop (c.turns.parameter-index + 1) c.args.parameters.now)) _
    c.in_ok-one.ensures c.in_ok-all.ensures (ap (λ xs. run_parameters (found c.turns.all c.turns.walk) (map j xs)) (sym e) ∙ c.turns.invariant)

pub parameters_written-returns-in_err-one : goal.parameters_written-returns-in_err-one
parameters_written-returns-in_err-one t c =
    let p = err_from_is_err_and c.from_residual.result c.from_residual.ensures.1 in
    let j = judged_parameter c.args.declarations.now in
    let e = next_item c.args.parameters.now c.turns.parameter-index c.parameter-item.result c.turns-test.true c.parameter-item.is in
    rw (p.1, p.2) (turn_fails c.in_err-one.field-0.0 c.turns.all c.turns.walk c.parameter_written.new.walk (j c.parameter-item.result) (map j (drop (c.turns.parameter-index + 1) c.args.parameters.now)) _
    c.in_err-one.ensures (ap (λ xs. run_parameters (found c.turns.all c.turns.walk) (map j xs)) (sym e) ∙ c.turns.invariant))

pub type_written-returns-in-Function : goal.type_written-returns-in-Function
type_written-returns-in-Function t c =
    let d = c.args.declarations.now in
    let ps = c.as_slice.result.now in
    let r = c.get-in-Function.result.now in
    let w = c.args.walk.now in
    let same : c.args.ty.now.form ≡ form.Function ps r = c.in-Function.is ∙ ap (λ x. form.Function x c.in-Function.result) (sym c.as_slice.ensures) ∙ ap (form.Function ps) (sym c.get-in-Function.ensures) in
    let here = ap (λ (f : TypeForm). judged_type d (record { span = c.args.ty.now.span; form = f }) w) same ∙ ap (λ judge. judge w) (judged_function d c.args.ty.now.span ps r) in
    let step = function_step d in
    subst (λ v. Answers c.function_written.result c.function_written.new.walk v)
    (ap (λ n. step n (map (judged_parameter d) ps) (judged_type d r) c.take_node.new.self) c.in_ok-node.ensures.node ∙ ap (λ v. step (node w.next) (map (judged_parameter d) ps) (judged_type d r) v) c.in_ok-node.ensures.walk ∙ sym here)
    c.function_written.ensures
