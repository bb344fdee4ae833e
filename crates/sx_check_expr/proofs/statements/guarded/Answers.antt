use Rattle.std.proofs.Common.{sym, subst}
use Rattle.sx_scope.specs.Verdict.{Answers, both}
use Rattle.sx_bodies.specs.Statements.{block}
use Rattle.sx_check_expr.specs.Judge.{judged_block}
use Rattle.sx_check_expr.proofs.statements.guarded.Goals as goal

pub returns : goal.returns
returns g c =
    let inner = block c.args.inside (judged_block c.args.declarations.now c.args.statements.now) in
    let now = c.block-statements.new.walk in
    subst (λ v. Answers c.joined.result now (both v inner)) (sym c.in_ok-condition.ensures) (c.joined.ensures (λ _. inner) c.judge_expr.new.walk now c.block-statements.ensures)
