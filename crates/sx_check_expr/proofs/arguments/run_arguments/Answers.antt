use Rattle.std.proofs.Common.{option_map}
use Rattle.std.proofs.lemmas.Result.{err_from_is_err_and}
use Rattle.sx_scope.specs.Verdict.{found}
use Rattle.sx_calls.specs.Parts.{trailing}
use Rattle.sx_check_expr.specs.Judge.{judged_closure}
use Rattle.sx_check_expr.proofs.Runs.{arguments_on, arguments_stop}
use Rattle.sx_check_expr.proofs.arguments.run_arguments.Goals as goal

pub returns-in_err-passed : goal.returns-in_err-passed
returns-in_err-passed g c =
    let d = c.args.declarations.now in
    let p = err_from_is_err_and c.from_residual.result c.from_residual.ensures.1 in
    rw (p.1, p.2) (arguments_stop d c.args.place c.arguments.slots.now c.next_slot-slot.result.1.now c.next_slot-slot.result.0 c.arguments.arguments.now c.in-Some.rest.now c.in-Some.argument.now (trailing (option_map (judged_closure d) c.args.closure.now)) (found c.arguments.passed c.arguments.walk) _ c.in_err-passed.field-0.0 c.run_argument.new.walk c.run_argument.new.walk c.in-Some.ensures.cases.0 c.next_slot-slot.ensures.first c.next_slot-slot.ensures.others c.arguments.invariant c.in_err-passed.ensures)

pub arguments-preserved : goal.arguments-preserved
arguments-preserved g c =
    let d = c.args.declarations.now in
    arguments_on d c.args.place c.arguments.slots.now c.next_slot-slot.result.1.now c.next_slot-slot.result.0 c.arguments.arguments.now c.in-Some.rest.now c.in-Some.argument.now (trailing (option_map (judged_closure d) c.args.closure.now)) (found c.arguments.passed c.arguments.walk) (found c.in_ok-passed.passed c.run_argument.new.walk) _ c.in-Some.ensures.cases.0 c.next_slot-slot.ensures.first c.next_slot-slot.ensures.others c.arguments.invariant c.in_ok-passed.ensures
