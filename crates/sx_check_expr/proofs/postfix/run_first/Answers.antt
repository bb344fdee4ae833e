use Rattle.std.proofs.Common.{◌≡◌, ◌+◌, List, map, sym, ap, subst, arith}
use Rattle.sx_typed.specs.declared.code.Expr.{Expr}
use Rattle.sx_scope.specs.Verdict.{Verdict, Answers}
use Rattle.sx_calls.specs.Parts.{JudgedPart, own_nodes}
use Rattle.sx_check_expr.specs.Judge.{judged_expr, judged_part, run_first}
use Rattle.sx_check_expr.proofs.Steps.{uncalled}
use Rattle.sx_check_expr.proofs.postfix.run_first.Goals as goal

pub overflow_sub-left : goal.overflow_sub-left
overflow_sub-left g c =
    let d = c.args.declarations.now in
    let all : own_nodes (map (judged_part d) c.args.parts.now) ≡ 1 + own_nodes (map (judged_part d) c.in-Some.rest.now) = ap own_nodes (c.in-Some.ensures.some d) in
    let left = c.requires.left in
    omega (arith, all, left)

pub run_called-requires-clause-left : goal.run_called-requires-clause-left
run_called-requires-clause-left g c =
    let d = c.args.declarations.now in
    let all : own_nodes (map (judged_part d) c.args.parts.now) ≡ 1 + own_nodes (map (judged_part d) c.in-Some.rest.now) = ap own_nodes (c.in-Some.ensures.some d) in
    let left = c.requires.left in
    omega (arith, all, left)

pub returns-in-Some : goal.returns-in-Some
returns-in-Some g c =
    let d = c.args.declarations.now in
    subst (λ (ps : List JudgedPart). Answers {A = Expr} c.run_called.result c.run_called.new.walk (run_first d c.args.place c.args.asked c.args.start c.args.site (judged_expr d c.args.operand.now) ps c.args.walk.now)) (sym (c.in-Some.ensures.some d)) c.run_called.ensures

pub returns-in-None : goal.returns-in-None
returns-in-None g c =
    let d = c.args.declarations.now in
    subst (λ (v : Verdict Expr). Answers {A = Expr} c.run_uncalled.result c.run_uncalled.new.walk v)
    (sym (uncalled d c.args.place c.args.asked c.args.start c.args.site (judged_expr d c.args.operand.now) (map (judged_part d) c.args.parts.now) c.args.walk.now (c.in-None.ensures.none d))) c.run_uncalled.ensures
