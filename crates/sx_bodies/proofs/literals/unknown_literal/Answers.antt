use Rattle.std.proofs.Common.{not, ap}
use Rattle.sx_bodies.proofs.Failing.{unmet}
use Rattle.sx_bodies.proofs.literals.unknown_literal.Goals as goal

pub returns-then-lacking : goal.returns-then-lacking
returns-then-lacking c = unmet _ _ _ _ _ (ap not c.if-lacking.true)
