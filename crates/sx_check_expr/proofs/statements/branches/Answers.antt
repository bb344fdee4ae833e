use Rattle.std.proofs.Common.{sym, subst}
use Rattle.sx_scope.specs.Verdict.{Answers, both}
use Rattle.sx_bodies.specs.Statements.{else_block}
use Rattle.sx_check_expr.specs.Judge.{judged_else}
use Rattle.sx_check_expr.proofs.statements.branches.Goals as goal

pub returns : goal.returns
returns g c =
    let behind = else_block c.args.place (judged_else c.args.declarations.now c.args.otherwise.now) in
    let now = c.else_block-behind.new.walk in
    subst (λ v. Answers c.joined.result now (both v behind)) (sym c.in_ok-parts.ensures) (c.joined.ensures (λ _. behind) c.guarded.new.walk now c.else_block-behind.ensures)
