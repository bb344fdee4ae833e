use Rattle.std.proofs.Common.{◌∙◌, ap, sym, subst}
use Rattle.sx_scope.specs.Verdict.{Answers, found, ◌▷◌}
use Rattle.sx_calls.specs.Calls.{argument_added}
use Rattle.sx_check_expr.proofs.arguments.pass.Goals as goal

pub returns-in-Typed : goal.returns-in-Typed
returns-in-Typed c =
    let w = c.args.walk.now in
    subst (λ v. Answers c.argument_added.result w (v ▷ argument_added c.args.slot c.args.shape)) (sym (ap (λ o. found o w) c.in-Typed.is) ∙ c.both.ensures w w) c.argument_added.ensures
