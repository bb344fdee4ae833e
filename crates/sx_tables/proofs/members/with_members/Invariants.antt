use Rattle.std.proofs.Common.{◌≡◌, length}
use Rattle.sx_tables.specs.Tables.{with_members}
use Rattle.sx_tables.proofs.members.with_members.Given as goal

abbrev pub invariant-members : goal.invariant-members
invariant-members l = with_members l.declarations l.ty l.numbers l.members l.nodes l.full ≡ with_members l.declarations l.ty l.fn.numbers l.fn.members l.fn.nodes l.fn.bare

abbrev pub decreases-members : goal.decreases-members
decreases-members l = length l.members
