use Rattle.std.proofs.Common.{ℕ, Option, subst}
use Rattle.sx_scope.specs.declared.walk.Use.TheVariants as uses
use Rattle.sx_scope.specs.Verdict.{Answers, ◌▷◌}
use Rattle.sx_scope.specs.Walks.{numbered}
use Rattle.sx_calls.specs.Parts.{JudgedExpr}
use Rattle.sx_bodies.specs.Statements.{asked_to_give, body_by, given_back}
use Rattle.sx_check_expr.specs.Judge.{judged_expr, judged_statements}
use Rattle.sx_check_expr.proofs.blocks.body.Goals as goal

pub returns-in-Some : goal.returns-in-Some
returns-in-Some g c =
    let d = c.args.declarations.now in
    let now = c.given_by.new.walk in
    subst (λ (o : Option JudgedExpr). Answers c.given_by.result now (body_by c.args.place (judged_statements d c.args.statements.now) o c.args.walk.now)) (c.in-Some.ensures.expr d)
    (subst (λ (k : ℕ). Answers c.given_by.result now (numbered (λ n w. (judged_expr d c.in-Some.expr.now).value c.args.place (asked_to_give c.args.place.gives) uses.Kept w ▷ given_back k) c.args.walk.now)) (c.in-Some.ensures.site d) c.given_by.ensures)

pub returns-in-None : goal.returns-in-None
returns-in-None g c =
    let d = c.args.declarations.now in
    subst (λ (o : Option JudgedExpr). Answers c.scoped.result c.scoped.new.walk (body_by c.args.place (judged_statements d c.args.statements.now) o c.args.walk.now)) (c.in-None.ensures.expr d) c.scoped.ensures
