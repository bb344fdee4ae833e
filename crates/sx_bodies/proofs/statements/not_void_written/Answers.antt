use Rattle.std.proofs.Common.{ap, sym, not, ◌∙◌}
use Rattle.sx_bodies.proofs.Failing.{unmet}
use Rattle.sx_bodies.proofs.statements.not_void_written.Goals as goal

pub returns-else-holds : goal.returns-else-holds
returns-else-holds c = unmet _ _ _ _ _ (ap not (sym c.is_void_option-holds.ensures ∙ c.if-holds.false))
