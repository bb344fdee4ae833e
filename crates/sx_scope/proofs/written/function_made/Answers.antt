use Rattle.std.proofs.Common.{◌∙◌, ap, sym, subst}
use Rattle.sx_scope.specs.Verdict.{Answers, found, ◌▷◌}
use Rattle.sx_scope.specs.WrittenTypes.{function_made}
use Rattle.sx_scope.proofs.written.function_made.Goals as goal

pub returns-in-Typed : goal.returns-in-Typed
returns-in-Typed c =
    let w = c.args.walk.now in
    subst (λ v. Answers c.function_of.result w (v ▷ function_made c.args.declarations.now c.args.node)) (sym (ap (λ o. found o w) c.in-Typed.is) ∙ c.both.ensures w w) c.function_of.ensures
