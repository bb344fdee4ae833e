use Rattle.std.proofs.Common.{ℕ, length, subst}
use Rattle.std.proofs.lemmas.Result.{err_from_is_err_and}
use Rattle.sx_scope.specs.Verdict.{Answers, moved}
use Rattle.sx_bodies.specs.Literals.{closed, judged_signature, literal_parts}
use Rattle.sx_check_expr.proofs.Moved.{full_or_moved, moved_fails}
use Rattle.sx_check_expr.specs.Judge.{judged_statements}
use Rattle.sx_check_expr.proofs.literals.closed_parts.Goals as goal

pub returns-in_err-parts : goal.returns-in_err-parts
returns-in_err-parts g c =
    let p = err_from_is_err_and c.from_residual.result c.from_residual.ensures.1 in
    rw (p.1, p.2) (moved_fails c.in_err-parts.field-0.0 c.literal_parts.new.walk _ _ _ c.in_err-parts.ensures)

pub returns : goal.returns
returns g c =
    let d = c.args.declarations.now in
    let parts = literal_parts d c.args.place c.args.asked c.args.used (judged_signature d c.args.signature.now) (judged_statements d c.args.statements.now) (length c.args.walk.now.locals) c.args.walk.now in
    subst (λ (k : ℕ). Answers c.unless_full.result c.close.new.walk (moved (closed c.args.node k (length c.args.walk.now.mentions)) parts)) c.len-locals.ensures
    (subst (λ (k : ℕ). Answers c.unless_full.result c.close.new.walk (moved (closed c.args.node c.len-locals.result k) parts)) c.len-mentions.ensures
    (full_or_moved c.unless_full.result c.in_ok-parts.parts c.close.result c.close.new.walk c.literal_parts.new.walk parts (closed c.args.node c.len-locals.result c.len-mentions.result) c.unless_full.ensures.part c.unless_full.ensures.room c.unless_full.ensures.stop c.close.ensures c.in_ok-parts.ensures))
