use Rattle.std.proofs.Common.{◌≡◌, ◌∙◌, ℕ, Option, Some, None, Err, sym, subst, ap}
use Rattle.std.proofs.lemmas.Result.{err_from_is_err_and}
use Rattle.sx_scope.specs.declared.walk.Asked.TheVariants as asked
use Rattle.sx_scope.specs.declared.walk.Callee.{Callee}
use Rattle.sx_scope.specs.declared.walk.Use.TheVariants as uses
use Rattle.sx_scope.specs.Verdict.{Answers, ◌▷◌}
use Rattle.sx_check_expr.specs.Judge.{called_value, callee_by, judged_expr}
use Rattle.sx_check_expr.proofs.Stops.{then_stops}
use Rattle.sx_check_expr.proofs.calls.callee.Goals as goal

pub returns-in-Some : goal.returns-in-Some
returns-in-Some g c =
    let d = c.args.declarations.now in
    let e = judged_expr d c.args.operand.now in
    subst (λ (o : Option ℕ). Answers {A = Callee} c.callee_named.result c.callee_named.new.walk (callee_by d c.args.place c.args.site e o c.args.walk.now)) (sym c.in-Some.is ∙ c.name_alone.ensures d) c.callee_named.ensures

pub returns-in_err-value-in-None : goal.returns-in_err-value-in-None
returns-in_err-value-in-None g c =
    let p = err_from_is_err_and c.from_residual.result c.from_residual.ensures.1 in
    let d = c.args.declarations.now in
    let e = judged_expr d c.args.operand.now in
    let now = c.judge_expr.new.walk in
    rw (p.1, p.2) (subst (λ (o : Option ℕ). Answers {A = Callee} (Err c.in_err-value-in-None.field-0.0) now (callee_by d c.args.place c.args.site e o c.args.walk.now)) (sym c.in-None.is ∙ c.name_alone.ensures d)
    (then_stops c.in_err-value-in-None.field-0.0 now now called_value (e.value c.args.place asked.Nothing uses.Kept c.args.walk.now) c.in_err-value-in-None.ensures))

pub returns-in_ok-value-in-None : goal.returns-in_ok-value-in-None
returns-in_ok-value-in-None g c =
    let d = c.args.declarations.now in
    let e = judged_expr d c.args.operand.now in
    let now = c.judge_expr.new.walk in
    subst (λ (o : Option ℕ). Answers {A = Callee} c.called_value.result now (callee_by d c.args.place c.args.site e o c.args.walk.now)) (sym c.in-None.is ∙ c.name_alone.ensures d)
    (subst (λ v. Answers {A = Callee} c.called_value.result now (v ▷ called_value)) (sym c.in_ok-value-in-None.ensures) c.called_value.ensures)
