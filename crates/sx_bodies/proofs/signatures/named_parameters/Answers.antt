use Rattle.std.proofs.Common.{ℕ, [], map, ap, ◌∙◌}
use Rattle.std.proofs.lemmas.Result.{err_from_is_err_and}
use Rattle.sx_scope.specs.Verdict.{typed}
use Rattle.sx_bodies.specs.Literals.{name_number, named_parameters, run_parameters}
use Rattle.sx_bodies.proofs.Failing.{carried}
use Rattle.sx_bodies.proofs.Runs.{names_on, names_stop}
use Rattle.sx_bodies.proofs.signatures.named_parameters.Goals as goal

pub returns-in_err-parameter : goal.returns-in_err-parameter
returns-in_err-parameter c =
    let p = err_from_is_err_and c.from_residual.result c.from_residual.ensures.1 in
    rw (p.1, p.2) (carried c.in_err-parameter.field-0.0 c.named_parameter.new.walk _ _ _
    (λ fs w h. names_stop c.args.declarations.now c.len-from.result c.names.wanted.now _ _ c.names.names.now c.in-Some.rest.now c.in-Some.name.now c.names.parameters _ fs c.names.walk w _ c.in-Some.ensures.cases.0 c.split-first.ensures.first c.split-first.ensures.others
    (c.names.invariant ∙ ap (λ (n : ℕ). run_parameters (typed [] c.args.walk.now) (named_parameters c.args.declarations.now n c.args.wanted.now (map name_number c.args.names.now))) c.len-from.ensures) h)
    c.in_err-parameter.ensures)

pub names-preserved : goal.names-preserved
names-preserved c =
    names_on c.args.declarations.now c.len-from.result c.names.wanted.now c.split-first.result.1.now c.split-first.result.0 c.names.names.now c.in-Some.rest.now c.in-Some.name.now c.names.parameters c.in_ok-parameters.parameters c.in_ok-parameter.parameter c.names.walk c.named_parameter.new.walk _ c.in-Some.ensures.cases.0 c.split-first.ensures.first c.split-first.ensures.others c.names.invariant c.in_ok-parameter.ensures
    (c.in_ok-parameters.ensures c.names.walk c.named_parameter.new.walk)
