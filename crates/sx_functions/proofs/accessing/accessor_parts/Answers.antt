use Rattle.std.proofs.Common.{ℕ, sym, subst}
use Rattle.std.proofs.lemmas.Result.{err_from_is_err_and}
use Rattle.sx_scope.specs.Verdict.{Answers, ◌▷◌, both}
use Rattle.sx_functions.specs.Accessors.{accessor_body, own_narrow, own_parameter, took}
use Rattle.sx_functions.proofs.Moved.{after_failing}
use Rattle.sx_functions.proofs.accessing.accessor_parts.Goals as goal

pub returns-in_err-parts : goal.returns-in_err-parts
returns-in_err-parts c =
    let p = err_from_is_err_and c.from_residual.result c.from_residual.ensures.1 in
    rw (p.1, p.2) (after_failing c.in_err-parts.field-0.0 c.own_and_body.new.walk _ _ c.in_err-parts.ensures)

pub returns : goal.returns
returns c =
    let d = c.args.declarations.now in
    let now = c.own_and_body.new.walk in
    let parts = both (own_parameter d c.args.names c.args.accessed.now c.args.accessor.now c.args.node c.args.walk.now ▷ own_narrow d c.args.accessed.now c.args.accessor.now c.args.node) (accessor_body d c.args.accessed.now c.args.accessor.now) in
    subst (λ (k : ℕ). Answers c.found_took.result now (parts ▷ took d c.args.accessed.now c.args.accessor.now c.args.node k)) c.len-before.ensures
    (subst (λ v. Answers c.found_took.result now (v ▷ took d c.args.accessed.now c.args.accessor.now c.args.node c.len-before.result)) (sym c.in_ok-parts.ensures) c.found_took.ensures)
