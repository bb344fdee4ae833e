use Rattle.std.proofs.Common.{sym, ◌∙◌}
use Rattle.sx_bodies.proofs.Failing.{too_wide}
use Rattle.sx_members.proofs.variables.narrow_parts.Goals as goal

pub returns-else-has_room : goal.returns-else-has_room
returns-else-has_room c = too_wide _ _ _ _ (sym c.has_room.ensures ∙ c.if-has_room.false)
