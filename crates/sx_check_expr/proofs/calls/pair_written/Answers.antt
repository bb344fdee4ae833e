use Rattle.std.proofs.Common.{◌≡◌, ◌∙◌, IfOk, List, subst, sym, ap}
use Rattle.sx_scope.specs.Verdict.{typed_part}
use Rattle.sx_calls.specs.declared.passed.Shape.{Shape}
use Rattle.sx_calls.specs.declared.passed.Pairing.{Pairing}
use Rattle.sx_calls.specs.Calls.{pairing}
use Rattle.sx_check_expr.proofs.Equations.{shapes_are}
use Rattle.sx_check_expr.proofs.calls.pair_written.Goals as goal

pub returns : goal.returns
returns c =
    let d = c.args.declarations.now in
    subst (λ (ss : List Shape). IfOk c.pair.result (λ (p : Pairing). p ≡ pairing d (typed_part c.args.callee.now) ss))
    (c.as_slice.ensures.value ∙ c.in_ok-shapes.ensures ∙ sym (shapes_are d c.args.arguments.now c.args.closure.now)) c.pair.ensures
