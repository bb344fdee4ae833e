use Rattle.sx_calls.proofs.Stops.{settled_fails}
use Rattle.sx_calls.specs.Calls.{met_found}
use Rattle.sx_scope.specs.Verdict.{found}
use Rattle.sx_calls.proofs.passing.settled.Goals as goal

pub returns-in-Err : goal.returns-in-Err
returns-in-Err c =
    settled_fails c.in-Err.stop c.args.walk.now c.args.slot c.args.node (met_found c.args.slot c.args.node c.args.shape (found c.args.value c.args.walk.now)) c.in-Err.ensures
