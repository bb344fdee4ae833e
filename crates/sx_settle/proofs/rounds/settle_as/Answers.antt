use Rattle.std.proofs.Common.{◌≡◌, Some, slice_get, arith}
use Rattle.sx_settle.proofs.Steps.{still}
use Rattle.sx_settle.proofs.rounds.settle_as.Goals as goal

pub returns-then-is_settled-clause-settled : goal.returns-then-is_settled-clause-settled
returns-then-is_settled-clause-settled c =
    let known : slice_get c.args.declarations.now.given c.args.number ≡ Some c.args.known = grind arith in
    let stop : slice_get c.args.stops.now c.args.number ≡ Some c.args.stop = grind arith in
    still c.args.number c.args.known c.args.stop c.args.declarations.now c.args.stops.now known stop
