use Rattle.std.proofs.Common.{◌∙◌, ℕ, map, ap, subst}
use Rattle.sx_typed.specs.declared.code.Expr.{Expr}
use Rattle.sx_scope.specs.declared.walk.Walk.{Walk}
use Rattle.sx_scope.specs.Verdict.{Answers}
use Rattle.sx_scope.specs.Walks.{advanced}
use Rattle.sx_check_expr.specs.Judge.{judged_expr, judged_part, run_first}
use Rattle.sx_check_expr.proofs.postfix.postfix_value.Goals as goal

pub run_first-requires-clause-left : goal.run_first-requires-clause-left
run_first-requires-clause-left g c = c.in_ok-count.ensures.made c.args.declarations.now

pub returns : goal.returns
returns g c =
    let d = c.args.declarations.now in
    let w = c.args.walk.now in
    let e = judged_expr d c.args.operand.now in
    let ps = map (judged_part d) c.args.parts.now in
    subst (λ (u : Walk). Answers {A = Expr} c.run_first.result c.run_first.new.walk (run_first d c.args.place c.args.asked w.next c.args.site e ps u)) (c.in_ok-start.ensures.walk ∙ ap (λ n. advanced n w) (c.in_ok-count.ensures.made d))
    (subst (λ (s : ℕ). Answers {A = Expr} c.run_first.result c.run_first.new.walk (run_first d c.args.place c.args.asked s c.args.site e ps c.take_nodes.new.self)) c.in_ok-start.ensures.node c.run_first.ensures)
