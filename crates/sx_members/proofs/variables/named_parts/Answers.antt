use Rattle.std.proofs.Common.{sym, subst}
use Rattle.sx_scope.specs.Verdict.{Answers, both}
use Rattle.sx_members.specs.Variables.{parts_by}
use Rattle.sx_members.proofs.variables.named_parts.Goals as goal

pub returns : goal.returns
returns c =
    let parts = parts_by c.args.declarations.now c.args.stops.now c.args.owner c.args.node c.args.given c.args.written.now c.args.written.now.ty in
    let now = c.parts_by-parts.new.walk in
    subst (λ v. Answers c.joined.result now (both v parts)) (sym c.in_ok-name.ensures) (c.joined.ensures (λ _. parts) c.args.walk.now now c.parts_by-parts.ensures)
