use Rattle.std.proofs.Common.{sym, subst}
use Rattle.sx_scope.specs.Verdict.{Answers, both}
use Rattle.sx_functions.specs.Accessors.{accessor_body}
use Rattle.sx_functions.proofs.accessing.own_and_body.Goals as goal

pub returns : goal.returns
returns c =
    let body = accessor_body c.args.declarations.now c.args.accessed.now c.args.accessor.now in
    let now = c.accessor_body-body.new.walk in
    subst (λ v. Answers c.joined.result now (both v body)) (sym c.in_ok-own.ensures) (c.joined.ensures (λ _. body) c.narrow_own.new.walk now c.accessor_body-body.ensures)
