use Rattle.std.proofs.Common.{◌≡◌, map}
use Rattle.sx_settle.specs.Settled.{rounds, settling}
use Rattle.sx_settle.specs.Steps.{given}
use Rattle.sx_settle.proofs.rounds.settle_in_rounds.Given as goal

abbrev pub invariant-rounds : goal.invariant-rounds
invariant-rounds l =
    rounds l.taking l.left (map given l.givings) (settling l.declarations l.stops) ≡ rounds l.fn.taking l.fn.count (map given l.fn.givings) (settling l.fn.declarations l.fn.stops)

abbrev pub decreases-rounds : goal.decreases-rounds
decreases-rounds l = l.left
