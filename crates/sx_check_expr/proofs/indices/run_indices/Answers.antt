use Rattle.std.proofs.lemmas.Result.{err_from_is_err_and}
use Rattle.sx_check_expr.proofs.Runs.{indices_on, indices_stop}
use Rattle.sx_check_expr.proofs.indices.run_indices.Goals as goal

pub returns-in_err-index : goal.returns-in_err-index
returns-in_err-index g c =
    let d = c.args.declarations.now in
    let p = err_from_is_err_and c.from_residual.result c.from_residual.ensures.1 in
    rw (p.1, p.2) (indices_stop d c.args.place c.indices.types.now c.next_type-ty.result.0 c.indices.indices.now c.in-Some.rest.now c.in-Some.index.now c.indices.found c.indices.walk _ c.in_err-index.field-0.0 c.index_for.new.walk c.index_for.new.walk c.in-Some.ensures.cases.0 (c.next_type-ty.ensures.first d) c.indices.invariant c.in_err-index.ensures)

pub indices-preserved : goal.indices-preserved
indices-preserved g c =
    let d = c.args.declarations.now in
    indices_on d c.args.place c.indices.types.now c.next_type-ty.result.1.now c.next_type-ty.result.0 c.indices.indices.now c.in-Some.rest.now c.in-Some.index.now c.indices.found c.in_ok-found.found c.in_ok-index.index c.indices.walk c.index_for.new.walk _ c.in-Some.ensures.cases.0 (c.next_type-ty.ensures.first d) (c.next_type-ty.ensures.others d) c.indices.invariant c.in_ok-index.ensures
    (c.in_ok-found.ensures d c.indices.walk c.index_for.new.walk)
