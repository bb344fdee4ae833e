use Rattle.std.proofs.Common.{◌≡◌, ℕ, length, sym, ap, subst, ◌∙◌}
use Rattle.sx_scope.specs.declared.walk.Walk.{Walk}
use Rattle.sx_scope.specs.Verdict.{Answers, ◌▷◌, moved}
use Rattle.sx_functions.specs.Accessors.{accessor_parts, returning}
use Rattle.sx_functions.specs.Places.{left, shortened}
use Rattle.sx_functions.proofs.Moved.{moved_answers}
use Rattle.sx_functions.proofs.accessing.left_parts.Goals as goal

pub returns : goal.returns
returns c =
    let d = c.args.declarations.now in
    let before = c.args.walk.now in
    let behind = c.returning_parts-parts.new.walk in
    let parts = accessor_parts d c.args.names c.args.accessed.now c.args.accessor.now c.args.node before ▷ returning d c.args.accessed.now c.args.accessor.now c.args.node in
    let at : left before behind ≡ c.leave.new.walk =
    ap (λ (k : ℕ). shortened k (length before.mentions) behind) (sym c.len-locals.ensures) ∙ ap (λ (k : ℕ). shortened c.len-locals.result k behind) (sym c.len-mentions.ensures) ∙ sym c.leave.ensures in
    subst (λ (w : Walk). Answers c.returning_parts-parts.result w (moved (left before) parts)) at (moved_answers c.returning_parts-parts.result behind parts (left before) c.returning_parts-parts.ensures)
