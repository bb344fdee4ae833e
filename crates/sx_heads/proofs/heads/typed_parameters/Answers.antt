use Rattle.std.proofs.lemmas.Result.{err_from_is_err_and}
use Rattle.sx_heads.specs.Heads.{typed_parameter}
use Rattle.sx_bodies.proofs.Failing.{carried}
use Rattle.sx_heads.proofs.Runs.{goes_on, stops}
use Rattle.sx_heads.proofs.heads.typed_parameters.Goals as goal

pub returns-in_err-parameter : goal.returns-in_err-parameter
returns-in_err-parameter c =
    let p = err_from_is_err_and c.from_residual.result c.from_residual.ensures.1 in
    rw (p.1, p.2) (carried c.in_err-parameter.field-0.0 c.typed_parameter.new.walk _ _ _
    (λ fs w h. stops (typed_parameter c.args.declarations.now) c.written.written.now c.in-Some.rest.now c.in-Some.first.now c.written.parameters _ fs c.written.walk w _ c.in-Some.ensures.cases.0 c.written.invariant h)
    c.in_err-parameter.ensures)

pub written-preserved : goal.written-preserved
written-preserved c =
    goes_on (typed_parameter c.args.declarations.now) c.written.written.now c.in-Some.rest.now c.in-Some.first.now c.written.parameters c.in_ok-parameters.parameters c.in_ok-parameter.parameter c.written.walk c.typed_parameter.new.walk _ c.in-Some.ensures.cases.0 c.written.invariant c.in_ok-parameter.ensures
    (c.in_ok-parameters.ensures c.written.walk c.typed_parameter.new.walk)
