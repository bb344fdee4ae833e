use Rattle.std.proofs.Common.{[]}
use Rattle.std.proofs.lemmas.Result.{err_from_is_err_and}
use Rattle.sx_scope.specs.Verdict.{typed}
use Rattle.sx_bodies.specs.Statements.{run_statements}
use Rattle.sx_bodies.proofs.Failing.{carried}
use Rattle.sx_check_expr.proofs.StatementRuns.{goes_on, stops}
use Rattle.sx_check_expr.specs.Judge.{judged_statement, judged_statements}
use Rattle.sx_check_expr.proofs.blocks.run_statements.Goals as goal

pub returns-in_err-statement : goal.returns-in_err-statement
returns-in_err-statement g c =
    let p = err_from_is_err_and c.from_residual.result c.from_residual.ensures.1 in
    let d = c.args.declarations.now in
    let whole = run_statements c.args.place (typed [] c.args.walk.now) (judged_statements d c.args.statements.now) in
    rw (p.1, p.2) (carried c.in_err-statement.field-0.0 c.judge_statement.new.walk c.judge_statement.new.walk ((judged_statement d c.in-Some.first.now).value c.args.place c.statements.walk) whole
    (λ fs w h. stops d c.args.place c.statements.statements.now c.in-Some.rest.now c.in-Some.first.now c.statements.all c.in_err-statement.field-0.0 fs c.statements.walk w whole c.in-Some.ensures.cases.0 c.statements.invariant h)
    c.in_err-statement.ensures)

pub statements-preserved : goal.statements-preserved
statements-preserved g c =
    let d = c.args.declarations.now in
    goes_on d c.args.place c.statements.statements.now c.in-Some.rest.now c.in-Some.first.now c.statements.all c.in_ok-all.all c.in_ok-statement.statement c.statements.walk c.judge_statement.new.walk
    (run_statements c.args.place (typed [] c.args.walk.now) (judged_statements d c.args.statements.now)) c.in-Some.ensures.cases.0 c.statements.invariant c.in_ok-statement.ensures
    (c.in_ok-all.ensures c.statements.walk c.judge_statement.new.walk)
