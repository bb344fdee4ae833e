use Rattle.std.proofs.Common.{◌≡◌, ◌∙◌, ◌+◌, false, Err, map, sym, ap, subst}
use Rattle.std.proofs.lemmas.Result.{err_from_is_err_and}
use Rattle.sx_typed.specs.declared.code.Expr.{Expr}
use Rattle.sx_scope.specs.Verdict.{Verdict, Answers, found}
use Rattle.sx_scope.specs.Walks.{node}
use Rattle.sx_calls.specs.Calls.{call_value}
use Rattle.sx_calls.specs.Parts.{asked_before, own_nodes}
use Rattle.sx_check_expr.specs.Arguments.{judged_arguments}
use Rattle.sx_check_expr.specs.Judge.{callee, judged_expr, judged_part, run_parts}
use Rattle.sx_check_expr.proofs.Steps.{call_stops, called_is, parts_fail}
use Rattle.sx_check_expr.proofs.postfix.run_called.Goals as goal

pub returns-in_err-callee : goal.returns-in_err-callee
returns-in_err-callee g c =
    let r = err_from_is_err_and c.from_residual.result c.from_residual.ensures.1 in
    let d = c.args.declarations.now in
    let p = c.args.place in
    let q = c.args.asked in
    let ps = map (judged_part d) c.args.parts.now in
    let args = judged_arguments d c.args.arguments.now c.args.closure.now in
    let operand = callee d p c.args.site (judged_expr d c.args.operand.now) c.args.walk.now in
    let at = node (own_nodes ps + c.args.start) in
    let now = c.callee.new.walk in
    let e = c.in_err-callee.field-0.0 in
    rw (r.1, r.2) (parts_fail d p q c.args.start c.args.site false ps (call_value d p (asked_before ps q) at c.args.site args operand) e now now
    (call_stops d p (asked_before ps q) at c.args.site args operand e now now c.in_err-callee.ensures))

pub returns-in_err-value : goal.returns-in_err-value
returns-in_err-value g c =
    let r = err_from_is_err_and c.from_residual-in_err-value.result c.from_residual-in_err-value.ensures.1 in
    let d = c.args.declarations.now in
    let p = c.args.place in
    let q = c.args.asked in
    let ps = map (judged_part d) c.args.parts.now in
    let args = judged_arguments d c.args.arguments.now c.args.closure.now in
    let wanted = c.asked_before-wanted.result in
    let called = found c.in_ok-callee.callee c.callee.new.walk in
    let now = c.call_value.new.walk in
    let e = c.in_err-value.field-0.0 in
    rw (r.1, r.2) (subst (λ (v : Verdict Expr). Answers {A = Expr} (Err e) now v)
    (called_is d p q wanted c.args.start c.args.left c.args.site (judged_expr d c.args.operand.now) args ps c.args.walk.now called (c.asked_before-wanted.ensures d) c.requires.left c.in_ok-callee.ensures)
    (parts_fail d p q c.args.start c.args.site false ps (call_value d p wanted (node (c.args.left + c.args.start)) c.args.site args called) e now now c.in_err-value.ensures))

pub returns : goal.returns
returns g c =
    let d = c.args.declarations.now in
    let p = c.args.place in
    let q = c.args.asked in
    let ps = map (judged_part d) c.args.parts.now in
    let args = judged_arguments d c.args.arguments.now c.args.closure.now in
    let wanted = c.asked_before-wanted.result in
    let called = found c.in_ok-callee.callee c.callee.new.walk in
    subst (λ (v : Verdict Expr). Answers {A = Expr} c.run_parts.result c.run_parts.new.walk v)
    (ap (λ (v : Verdict Expr). run_parts d p q c.args.start c.args.site false v ps) (sym c.in_ok-value.ensures)
    ∙ called_is d p q wanted c.args.start c.args.left c.args.site (judged_expr d c.args.operand.now) args ps c.args.walk.now called (c.asked_before-wanted.ensures d) c.requires.left c.in_ok-callee.ensures)
    c.run_parts.ensures
