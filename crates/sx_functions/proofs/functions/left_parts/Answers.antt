use Rattle.std.proofs.Common.{◌≡◌, ℕ, length, sym, ap, subst, ◌∙◌}
use Rattle.sx_scope.specs.declared.walk.Walk.{Walk}
use Rattle.sx_scope.specs.Verdict.{Answers, ◌▷◌, both, moved}
use Rattle.sx_functions.specs.Functions.{function_parts, returning}
use Rattle.sx_functions.specs.Places.{left, new_name, shortened}
use Rattle.sx_functions.proofs.Moved.{moved_answers}
use Rattle.sx_functions.proofs.functions.left_parts.Goals as goal

pub returns : goal.returns
returns c =
    let d = c.args.declarations.now in
    let before = c.args.walk.now in
    let behind = c.returning_parts-parts.new.walk in
    let parts = both (new_name d c.args.seen.now.keys c.args.function.now.name.number c.args.node before) (function_parts d c.args.owner c.args.node c.args.function.now) ▷ returning d c.args.node c.args.function.now in
    let at : left before behind ≡ c.leave.new.walk =
    ap (λ (k : ℕ). shortened k (length before.mentions) behind) (sym c.len-locals.ensures) ∙ ap (λ (k : ℕ). shortened c.len-locals.result k behind) (sym c.len-mentions.ensures) ∙ sym c.leave.ensures in
    subst (λ (w : Walk). Answers c.returning_parts-parts.result w (moved (left before) parts)) at (moved_answers c.returning_parts-parts.result behind parts (left before) c.returning_parts-parts.ensures)
