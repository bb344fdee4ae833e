use Rattle.std.proofs.lemmas.Result.{err_from_is_err_and}
use Rattle.sx_scope.specs.Verdict.{typed}
use Rattle.sx_bodies.proofs.Failing.{carried}
use Rattle.sx_functions.specs.Accessors.{accessor, run_accessors}
use Rattle.sx_functions.proofs.Runs.{goes_on, stops}
use Rattle.sx_functions.proofs.accessing.accessors.Goals as goal

pub returns-in_err-found : goal.returns-in_err-found
returns-in_err-found c =
    let p = err_from_is_err_and c.from_residual.result c.from_residual.ensures.1 in
    let d = c.args.declarations.now in
    let whole = run_accessors d c.args.names c.args.accessed.now (typed tt c.args.walk.now) c.args.accessors.now in
    rw (p.1, p.2) (carried c.in_err-found.field-0.0 c.accessor.new.walk _ (accessor d c.args.names c.args.accessed.now c.in-Some.first.now c.remaining.walk) whole
    (λ fs w h. stops d c.args.names c.args.accessed.now c.remaining.remaining.now c.in-Some.rest.now c.in-Some.first.now c.remaining.all c.in_err-found.field-0.0 fs c.remaining.walk w whole c.in-Some.ensures.cases.0 c.remaining.invariant h)
    c.in_err-found.ensures)

pub remaining-preserved : goal.remaining-preserved
remaining-preserved c =
    let d = c.args.declarations.now in
    goes_on d c.args.names c.args.accessed.now c.remaining.remaining.now c.in-Some.rest.now c.in-Some.first.now c.remaining.all c.nothing_more-all.result c.in_ok-found.found c.remaining.walk c.accessor.new.walk
    (run_accessors d c.args.names c.args.accessed.now (typed tt c.args.walk.now) c.args.accessors.now) c.in-Some.ensures.cases.0 c.remaining.invariant c.in_ok-found.ensures
    (c.nothing_more-all.ensures c.remaining.walk c.accessor.new.walk)
