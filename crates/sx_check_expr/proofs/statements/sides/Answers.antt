use Rattle.std.proofs.Common.{Option, sym, subst}
use Rattle.sx_typed.specs.declared.code.Expr.{Expr}
use Rattle.sx_scope.specs.declared.walk.Asked.{Asked}
use Rattle.sx_scope.specs.declared.walk.Use.TheVariants as uses
use Rattle.sx_scope.specs.Verdict.{Answers, both_by}
use Rattle.sx_bodies.specs.Statements.{asked_of_right}
use Rattle.sx_check_expr.specs.Judge.{judged_expr}
use Rattle.sx_check_expr.proofs.statements.sides.Goals as goal

pub returns : goal.returns
returns g c =
    let right = λ (q : Asked). (judged_expr c.args.declarations.now c.args.value.now).value c.args.place q uses.Kept in
    let behind = λ (left : Option Expr). right (asked_of_right c.args.assignment left) in
    let now = c.judge_expr-value.new.walk in
    let before = c.left_side.new.walk in
    subst (λ v. Answers c.joined.result now (both_by v behind)) (sym c.in_ok-left.ensures)
    (c.joined.ensures behind before now (subst (λ (q : Asked). Answers c.judge_expr-value.result now (right q before)) c.asked_of_right-asked.ensures c.judge_expr-value.ensures))
