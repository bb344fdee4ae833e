use Rattle.std.proofs.Common.{List, Err, subst}
use Rattle.sx_scope.specs.declared.walk.Walk.{Walk}
use Rattle.sx_scope.specs.Verdict.{Answers, typed}
use Rattle.sx_calls.specs.declared.passed.Passed.{Passed}
use Rattle.sx_calls.specs.declared.passed.Slot.{Slot}
use Rattle.sx_calls.specs.Calls.{called, nothing_passed, run_arguments}
use Rattle.sx_check_expr.specs.Arguments.{judged_arguments}
use Rattle.sx_check_expr.proofs.Stops.{second_stops}
use Rattle.sx_check_expr.proofs.calls.run_call.Goals as goal

pub returns-in-Err : goal.returns-in-Err
returns-in-Err g c =
    let d = c.args.declarations.now in
    let args = judged_arguments d c.args.arguments.now c.args.closure.now in
    let now = c.run_arguments.new.walk in
    second_stops c.in-Err.stop now now c.args.callee c.args.walk.now (λ (w : Walk). run_arguments c.args.place (typed nothing_passed w) c.args.pairing.slots args) (called d c.args.asked c.args.node c.args.site c.args.pairing.counted)
    (subst (λ (ss : List Slot). Answers {A = Passed} (Err c.in-Err.stop) now (run_arguments c.args.place (typed nothing_passed c.args.walk.now) ss args)) c.as_slice-slots.ensures c.in-Err.ensures)
