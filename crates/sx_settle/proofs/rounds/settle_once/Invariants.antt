use Rattle.std.proofs.Common.{◌≡◌, IsFalse, drop, map}
use Rattle.sx_settle.specs.Settled.{round_from, settling}
use Rattle.sx_settle.specs.Steps.{given}
use Rattle.sx_settle.proofs.rounds.settle_once.Given as goal

abbrev pub invariant-givings : goal.invariant-givings
invariant-givings l = record {
  settled : round_from l.taking l.number (map given (drop l.number l.givings)) (settling l.declarations l.stops) ≡ round_from l.fn.taking 0 (map given l.givings) (settling l.fn.declarations l.fn.stops);
  still : IsFalse l.changed → settling l.declarations l.stops ≡ settling l.fn.declarations l.fn.stops;
}
