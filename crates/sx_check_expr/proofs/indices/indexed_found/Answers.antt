use Rattle.std.proofs.Common.{◌∙◌, ap, sym, subst}
use Rattle.sx_scope.specs.Verdict.{Answers, found, ◌▷◌}
use Rattle.sx_calls.specs.Calls.{indexed_value}
use Rattle.sx_check_expr.proofs.indices.indexed_found.Goals as goal

pub returns-in-Typed : goal.returns-in-Typed
returns-in-Typed c =
    let w = c.args.walk.now in
    subst (λ v. Answers c.indexed_value.result w (v ▷ indexed_value c.args.declarations.now c.args.asked c.args.node c.args.site c.args.count)) (sym (ap (λ o. found o w) c.in-Typed.is) ∙ c.both.ensures w w) c.indexed_value.ensures
