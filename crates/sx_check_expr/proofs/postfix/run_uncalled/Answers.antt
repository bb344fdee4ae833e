use Rattle.std.proofs.Common.{◌≡◌, ◌∙◌, Bool, Err, map, sym, ap, subst}
use Rattle.std.proofs.lemmas.Result.{err_from_is_err_and}
use Rattle.sx_typed.specs.declared.code.Expr.{Expr}
use Rattle.sx_scope.specs.declared.walk.Asked.TheVariants as asked
use Rattle.sx_scope.specs.declared.walk.Use.TheVariants as uses
use Rattle.sx_scope.specs.Verdict.{Verdict, Answers, found}
use Rattle.sx_check_expr.specs.Judge.{judged_expr, judged_part, run_parts}
use Rattle.sx_check_expr.proofs.Steps.{parts_fail}
use Rattle.sx_check_expr.proofs.postfix.run_uncalled.Goals as goal

pub returns-in_err-value : goal.returns-in_err-value
returns-in_err-value g c =
    let r = err_from_is_err_and c.from_residual.result c.from_residual.ensures.1 in
    let d = c.args.declarations.now in
    let j = judged_expr d c.args.operand.now in
    let ps = map (judged_part d) c.args.parts.now in
    let now = c.judge_expr.new.walk in
    rw (r.1, r.2) (parts_fail d c.args.place c.args.asked c.args.start c.args.site j.is_self ps (j.value c.args.place asked.Nothing uses.Kept c.args.walk.now) c.in_err-value.field-0.0 now now c.in_err-value.ensures)

pub returns : goal.returns
returns g c =
    let d = c.args.declarations.now in
    let j = judged_expr d c.args.operand.now in
    let ps = map (judged_part d) c.args.parts.now in
    subst (λ (v : Verdict Expr). Answers {A = Expr} c.run_parts.result c.run_parts.new.walk v)
    (ap (λ (b : Bool). run_parts d c.args.place c.args.asked c.args.start c.args.site b (found c.in_ok-value.value c.judge_expr.new.walk) ps) (c.is_self.ensures d)
    ∙ ap (λ (v : Verdict Expr). run_parts d c.args.place c.args.asked c.args.start c.args.site j.is_self v ps) (sym c.in_ok-value.ensures))
    c.run_parts.ensures
