use Rattle.sx_settle.proofs.Steps.{failed_on}
use Rattle.sx_settle.proofs.settling.all_failed.Goals as goal

pub turns-preserved : goal.turns-preserved
turns-preserved c = failed_on c.args.given.now c.turns.index c.turns.all c.push.new.self c.turns-test.true c.turns.invariant c.in_ok-push.ensures.ok
