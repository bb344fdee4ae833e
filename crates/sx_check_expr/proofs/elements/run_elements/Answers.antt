use Rattle.std.proofs.lemmas.Result.{err_from_is_err_and}
use Rattle.sx_check_expr.proofs.Runs.{elements_on, elements_stop}
use Rattle.sx_check_expr.proofs.elements.run_elements.Goals as goal

pub returns-in_err-element : goal.returns-in_err-element
returns-in_err-element g c =
    let p = err_from_is_err_and c.from_residual.result c.from_residual.ensures.1 in
    rw (p.1, p.2) (elements_stop c.args.declarations.now c.args.place c.elements.elements.now c.in-Some.rest.now c.in-Some.element.now c.elements.found c.elements.walk _ c.in_err-element.field-0.0 c.judge_expr.new.walk c.judge_expr.new.walk c.in-Some.ensures.cases.0 c.elements.invariant c.in_err-element.ensures)

pub elements-preserved : goal.elements-preserved
elements-preserved g c =
    elements_on c.args.declarations.now c.args.place c.elements.elements.now c.in-Some.rest.now c.in-Some.element.now c.elements.found c.in_ok-found.found c.in_ok-element.element c.elements.walk c.judge_expr.new.walk _ c.in-Some.ensures.cases.0 c.elements.invariant c.in_ok-element.ensures
    (c.in_ok-found.ensures c.elements.walk c.judge_expr.new.walk)
