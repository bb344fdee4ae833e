use Rattle.std.proofs.Common.{length, subst}
use Rattle.sx_span.specs.declared.places.Node.{Node}
use Rattle.sx_scope.specs.declared.walk.Walk.{Walk}
use Rattle.sx_scope.specs.Verdict.{Answers, ◌▷◌, moved}
use Rattle.sx_scope.specs.Walks.{advanced}
use Rattle.sx_functions.specs.Accessors.{accessor_added, accessor_parts, returning}
use Rattle.sx_functions.specs.Places.{left}
use Rattle.sx_functions.proofs.accessing.accessor.Goals as goal

pub returns : goal.returns
returns c =
    let d = c.args.declarations.now in
    let whole = λ (m : Node) (w : Walk). moved (left w) (accessor_parts d c.args.names c.args.accessed.now c.args.accessor.now m w ▷ returning d c.args.accessed.now c.args.accessor.now m) ▷ accessor_added c.args.names c.args.accessed.now c.args.accessor.now m (length w.literals) in
    subst (λ (m : Node). Answers c.accessor_at.result c.accessor_at.new.walk (whole m (advanced 1 c.args.walk.now))) c.in_ok-node.ensures.node
    (subst (λ (w : Walk). Answers c.accessor_at.result c.accessor_at.new.walk (whole c.in_ok-node.node w)) c.in_ok-node.ensures.walk c.accessor_at.ensures)
