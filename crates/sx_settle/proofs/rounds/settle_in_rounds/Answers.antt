use Rattle.std.proofs.Common.{◌≡◌, ◌<◌, IsFalse, map, arith}
use Rattle.sx_settle.specs.Settled.{settling}
use Rattle.sx_settle.specs.Steps.{given}
use Rattle.sx_settle.proofs.Steps.{rounds_done, rounds_on, rounds_still}
use Rattle.sx_settle.proofs.rounds.settle_in_rounds.Goals as goal

pub returns-then-not-branch : goal.returns-then-not-branch
returns-then-not-branch c =
    let unchanged : IsFalse c.in_ok-settle_once.field-0 = grind arith in
    rounds_still c.args.taking c.rounds.left (map given c.args.givings.now) (settling c.rounds.declarations c.rounds.stops) (settling c.settle_once.new.declarations c.settle_once.new.stops) _ c.rounds.invariant c.in_ok-settle_once.ensures.settled (c.in_ok-settle_once.ensures.still unchanged)

pub rounds-preserved : goal.rounds-preserved
rounds-preserved c =
    let more : 0 < c.rounds.left = grind arith in
    rounds_on c.args.taking c.rounds.left (map given c.args.givings.now) (settling c.rounds.declarations c.rounds.stops) (settling c.settle_once.new.declarations c.settle_once.new.stops) _ more c.rounds.invariant c.in_ok-settle_once.ensures.settled

pub returns : goal.returns
returns c =
    let none : c.rounds.left ≡ 0 = grind arith in
    rounds_done c.args.taking c.rounds.left (map given c.args.givings.now) (settling c.rounds.declarations c.rounds.stops) _ none c.rounds.invariant
