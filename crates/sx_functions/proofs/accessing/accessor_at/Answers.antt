use Rattle.std.proofs.Common.{ℕ, sym, subst}
use Rattle.std.proofs.lemmas.Result.{err_from_is_err_and}
use Rattle.sx_scope.specs.Verdict.{Answers, ◌▷◌, moved}
use Rattle.sx_functions.specs.Accessors.{accessor_added, accessor_parts, returning}
use Rattle.sx_functions.specs.Places.{left}
use Rattle.sx_functions.proofs.Moved.{after_failing}
use Rattle.sx_functions.proofs.accessing.accessor_at.Goals as goal

pub returns-in_err-parts : goal.returns-in_err-parts
returns-in_err-parts c =
    let p = err_from_is_err_and c.from_residual.result c.from_residual.ensures.1 in
    rw (p.1, p.2) (after_failing c.in_err-parts.field-0.0 c.left_parts.new.walk _ _ c.in_err-parts.ensures)

pub returns : goal.returns
returns c =
    let d = c.args.declarations.now in
    let now = c.found_added.new.walk in
    let parts = moved (left c.args.walk.now) (accessor_parts d c.args.names c.args.accessed.now c.args.accessor.now c.args.node c.args.walk.now ▷ returning d c.args.accessed.now c.args.accessor.now c.args.node) in
    subst (λ (k : ℕ). Answers c.found_added.result now (parts ▷ accessor_added c.args.names c.args.accessed.now c.args.accessor.now c.args.node k)) c.len-before.ensures
    (subst (λ v. Answers c.found_added.result now (v ▷ accessor_added c.args.names c.args.accessed.now c.args.accessor.now c.args.node c.len-before.result)) (sym c.in_ok-parts.ensures) c.found_added.ensures)
