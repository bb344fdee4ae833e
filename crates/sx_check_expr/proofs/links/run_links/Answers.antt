use Rattle.std.proofs.Common.{◌+◌, length, refl}
use Rattle.std.proofs.lemmas.Result.{err_from_is_err_and}
use Rattle.sx_scope.specs.Verdict.{found}
use Rattle.sx_check_expr.proofs.Runs.{links_stop}
use Rattle.sx_check_expr.proofs.links.run_links.Goals as goal

pub returns-in_err-left : goal.returns-in_err-left
returns-in_err-left g c =
    let p = err_from_is_err_and c.from_residual.result c.from_residual.ensures.1 in
    rw (p.1, p.2) (links_stop c.args.declarations.now c.args.place c.args.start c.args.site (c.args.start + length c.in-Some.rest.now) c.links.links.now c.in-Some.rest.now c.in-Some.link.now (found c.links.left c.links.walk) _ c.in_err-left.field-0.0 c.linked.new.walk c.linked.new.walk c.in-Some.ensures.cases.0 refl c.links.invariant.0 c.in_err-left.ensures)
