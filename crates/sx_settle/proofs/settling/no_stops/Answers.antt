use Rattle.sx_settle.proofs.Steps.{nones_on}
use Rattle.sx_settle.proofs.settling.no_stops.Goals as goal

pub turns-preserved : goal.turns-preserved
turns-preserved c = nones_on c.args.given.now c.turns.index c.turns.stops c.push.new.self c.turns-test.true c.turns.invariant c.in_ok-push.ensures.ok
