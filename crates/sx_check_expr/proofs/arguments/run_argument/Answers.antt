use Rattle.sx_scope.specs.Walks.{numbered}
use Rattle.sx_calls.specs.Calls.{argument_added, argument_value}
use Rattle.sx_check_expr.specs.Judge.{judged_argument}
use Rattle.sx_check_expr.proofs.Stops.{second_stops}
use Rattle.sx_check_expr.proofs.arguments.run_argument.Goals as goal

pub returns-in-Err : goal.returns-in-Err
returns-in-Err g c =
    let a = judged_argument c.args.declarations.now c.args.argument.now in
    second_stops c.in-Err.stop c.argument_value.new.walk c.argument_value.new.walk c.args.passed c.args.walk.now (numbered (argument_value c.args.place c.args.slot a)) (argument_added c.args.slot a.shape) c.in-Err.ensures
