use Rattle.sx_scope.specs.Walks.{numbered}
use Rattle.sx_calls.specs.Calls.{argument_added, argument_value}
use Rattle.sx_calls.specs.Parts.{trailing_shape}
use Rattle.sx_check_expr.specs.Arguments.{trailing_argument}
use Rattle.sx_check_expr.proofs.Stops.{second_stops}
use Rattle.sx_check_expr.proofs.arguments.run_trailing.Goals as goal

pub returns-in-Err : goal.returns-in-Err
returns-in-Err g c =
    second_stops c.in-Err.stop c.trailing_value.new.walk c.trailing_value.new.walk c.args.passed c.args.walk.now (numbered (argument_value c.args.place c.args.slot (trailing_argument c.args.declarations.now c.args.closure.now))) (argument_added c.args.slot trailing_shape) c.in-Err.ensures
