use Rattle.std.proofs.Common.{◌≡◌, ◌∙◌, Option, Err, ap, sym, subst}
use Rattle.sx_typed.specs.declared.code.Expr.{Expr}
use Rattle.sx_scope.specs.declared.walk.Asked.{Asked}
use Rattle.sx_scope.specs.declared.walk.Use.TheVariants as uses
use Rattle.sx_scope.specs.Verdict.{Verdict, Answers, both_by, found, ◌▷◌}
use Rattle.sx_calls.specs.Parts.{JudgedLink}
use Rattle.sx_calls.specs.Operators.{linked, operated, right_asked}
use Rattle.sx_check_expr.specs.Judge.{judged_expr}
use Rattle.sx_check_expr.proofs.Equations.{link_is}
use Rattle.sx_check_expr.proofs.Stops.{asked_stops}
use Rattle.sx_check_expr.proofs.links.linked.Goals as goal

pub returns-in-Err : goal.returns-in-Err
returns-in-Err g c =
    let d = c.args.declarations.now in
    let l = c.args.link.now in
    let p = c.args.place in
    let w = c.args.walk.now in
    let now = c.judge_expr.new.walk in
    let judge = judged_expr d l.operand in
    let ask = λ (o : Option Expr). judge.value p (right_asked l.operator o) uses.Kept in
    subst (λ (j : JudgedLink). Answers {A = Expr} (Err c.in-Err.stop) now (linked p c.args.node c.args.site j (found c.args.left w))) (sym (link_is d l))
    (subst (λ (v : Verdict Expr). Answers {A = Expr} (Err c.in-Err.stop) now (both_by v ask ▷ operated l.operator c.args.node c.args.site)) (sym c.in_ok-left.ensures)
    (asked_stops c.in-Err.stop now now c.in_ok-left.left w ask (operated l.operator c.args.node c.args.site)
    (subst (λ (q : Asked). Answers {A = Expr} (Err c.in-Err.stop) now (judge.value p q uses.Kept w)) c.right_asked-wanted.ensures c.in-Err.ensures)))
