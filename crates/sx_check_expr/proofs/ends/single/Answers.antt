use Rattle.std.proofs.Common.{◌≡◌, ℕ, ◌<◌, length, IfSome, arith, subst}
use Rattle.sx_check_expr.proofs.LastStatements.{first_site}
use Rattle.sx_check_expr.proofs.ends.single.Goals as goal

pub returns-then-has_value-clause-site : goal.returns-then-has_value-clause-site
returns-then-has_value-clause-site c =
    let some : 0 < length c.args.statements.now = omega arith in
    λ d. subst (λ (k : ℕ). IfSome c.alone.result (λ x. x.0 ≡ k)) (first_site d c.args.statements.now c.statement-item.result some c.statement-item.is) (c.alone.ensures.site d)
