use Rattle.std.proofs.Common.{ℕ, [], map, ap, ◌∙◌}
use Rattle.std.proofs.lemmas.Result.{err_from_is_err_and}
use Rattle.sx_scope.specs.Verdict.{typed}
use Rattle.sx_heads.specs.Heads.{checked_parameter, run_parameters}
use Rattle.sx_bodies.proofs.Failing.{carried}
use Rattle.sx_heads.proofs.Runs.{goes_on, stops}
use Rattle.sx_heads.proofs.heads.checked_parameters.Goals as goal

pub returns-in_err-parameter : goal.returns-in_err-parameter
returns-in_err-parameter c =
    let p = err_from_is_err_and c.from_residual.result c.from_residual.ensures.1 in
    rw (p.1, p.2) (carried c.in_err-parameter.field-0.0 c.checked_parameter.new.walk _ _ _
    (λ fs w h. stops (checked_parameter c.args.declarations.now c.args.list c.len-from.result) c.written.written.now c.in-Some.rest.now c.in-Some.first.now c.written.parameters _ fs c.written.walk w _ c.in-Some.ensures.cases.0
    (c.written.invariant ∙ ap (λ (n : ℕ). run_parameters (typed [] c.args.walk.now) (map (checked_parameter c.args.declarations.now c.args.list n) c.args.written.now)) c.len-from.ensures) h)
    c.in_err-parameter.ensures)

pub written-preserved : goal.written-preserved
written-preserved c =
    goes_on (checked_parameter c.args.declarations.now c.args.list c.len-from.result) c.written.written.now c.in-Some.rest.now c.in-Some.first.now c.written.parameters c.in_ok-parameters.parameters c.in_ok-parameter.parameter c.written.walk c.checked_parameter.new.walk _ c.in-Some.ensures.cases.0 c.written.invariant c.in_ok-parameter.ensures
    (c.in_ok-parameters.ensures c.written.walk c.checked_parameter.new.walk)
