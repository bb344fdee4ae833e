use Rattle.sx_bodies.proofs.Failing.{too_wide}
use Rattle.sx_functions.proofs.parts.demand_narrow.Goals as goal

pub returns-else-narrow : goal.returns-else-narrow
returns-else-narrow c = too_wide _ _ _ _ c.if-narrow.false
