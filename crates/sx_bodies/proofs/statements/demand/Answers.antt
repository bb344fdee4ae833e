use Rattle.sx_bodies.proofs.Failing.{unmet}
use Rattle.sx_bodies.proofs.statements.demand.Goals as goal

pub returns-else-holds : goal.returns-else-holds
returns-else-holds c = unmet _ _ _ _ _ c.if-holds.false
