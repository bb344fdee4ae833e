use Rattle.std.proofs.Common.{◌≡◌, ◌∙◌, Option, sym, subst, ap}
use Rattle.sx_typed.specs.declared.code.Expr.{Expr}
use Rattle.sx_scope.specs.declared.walk.Callee.{Callee}
use Rattle.sx_scope.specs.Verdict.{Answers, found}
use Rattle.sx_calls.specs.Calls.{pairing, run_call, shapes}
use Rattle.sx_calls.specs.declared.passed.Pairing.{Pairing}
use Rattle.sx_check_expr.specs.Arguments.{judged_arguments}
use Rattle.sx_check_expr.proofs.Stops.{callee_found}
use Rattle.sx_check_expr.proofs.calls.call_value.Goals as goal

pub returns : goal.returns
returns g c =
    let d = c.args.declarations.now in
    let args = judged_arguments d c.args.arguments.now c.args.closure.now in
    let w = c.args.walk.now in
    subst (λ (k : Pairing). Answers {A = Expr} c.run_call.result c.run_call.new.walk (run_call d c.args.place c.args.asked c.args.node c.args.site args (found c.args.callee w) k))
    (c.in_ok-pairing.ensures ∙ ap (λ (o : Option Callee). pairing d o (shapes d args)) (sym (callee_found d c.args.callee w))) c.run_call.ensures
