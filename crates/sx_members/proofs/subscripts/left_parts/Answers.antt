use Rattle.std.proofs.Common.{◌≡◌, ℕ, length, ap, sym, subst, ◌∙◌}
use Rattle.sx_scope.specs.declared.walk.Walk.{Walk}
use Rattle.sx_scope.specs.Verdict.{Answers, moved}
use Rattle.sx_functions.specs.Places.{left, shortened}
use Rattle.sx_members.specs.Members.{subscript_parts}
use Rattle.sx_members.proofs.Moved.{moved_answers}
use Rattle.sx_members.proofs.subscripts.left_parts.Goals as goal

pub returns : goal.returns
returns c =
    let inside = c.subscript_parts-parts.new.walk in
    let parts = subscript_parts c.args.declarations.now c.args.names c.args.owner c.args.another c.args.node c.args.subscript.now c.args.walk.now in
    let there : c.leave.new.walk ≡ left c.args.walk.now inside =
    c.leave.ensures ∙ ap (λ (n : ℕ). shortened n c.len-mentions.result inside) c.len-locals.ensures ∙ ap (λ (n : ℕ). shortened (length c.args.walk.now.locals) n inside) c.len-mentions.ensures in
    subst (λ (w : Walk). Answers c.subscript_parts-parts.result w (moved (left c.args.walk.now) parts)) (sym there)
    (moved_answers c.subscript_parts-parts.result inside parts (left c.args.walk.now) c.subscript_parts-parts.ensures)
