use Rattle.std.proofs.Common.{sym, subst}
use Rattle.std.proofs.lemmas.Result.{err_from_is_err_and}
use Rattle.sx_scope.specs.Verdict.{Answers, ◌▷◌}
use Rattle.sx_functions.specs.Accessors.{returning}
use Rattle.sx_functions.proofs.Moved.{after_failing}
use Rattle.sx_functions.proofs.accessing.returning_parts.Goals as goal

pub returns-in_err-parts : goal.returns-in_err-parts
returns-in_err-parts c =
    let p = err_from_is_err_and c.from_residual.result c.from_residual.ensures.1 in
    rw (p.1, p.2) (after_failing c.in_err-parts.field-0.0 c.accessor_parts.new.walk _ _ c.in_err-parts.ensures)

pub returns : goal.returns
returns c =
    let now = c.accessor_parts.new.walk in
    subst (λ v. Answers c.found_returning.result now (v ▷ returning c.args.declarations.now c.args.accessed.now c.args.accessor.now c.args.node)) (sym c.in_ok-parts.ensures) c.found_returning.ensures
