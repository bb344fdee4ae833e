use Rattle.std.proofs.Common.{sym, subst}
use Rattle.sx_scope.specs.Verdict.{Answers}
use Rattle.sx_calls.specs.Parts.{JudgedStatement}
use Rattle.sx_check_expr.proofs.StatementEquations.{if_is}
use Rattle.sx_check_expr.proofs.statements.statement.Goals as goal

pub returns-in-If : goal.returns-in-If
returns-in-If g c =
    subst (λ (j : JudgedStatement). Answers c.if_statement.result c.if_statement.new.walk (j.value c.args.place c.args.walk.now))
    (sym (if_is c.args.declarations.now c.args.statement.now c.in-If.condition c.in-If.block c.in-If.otherwise c.in-If.is)) c.if_statement.ensures
