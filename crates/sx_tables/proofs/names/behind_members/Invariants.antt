use Rattle.std.proofs.Common.{◌≡◌, length}
use Rattle.sx_tables.specs.Names.{behind_members}
use Rattle.sx_tables.proofs.names.behind_members.Given as goal

abbrev pub invariant-members : goal.invariant-members
invariant-members l = behind_members l.members l.numbers ≡ behind_members l.fn.members l.fn.numbers

abbrev pub decreases-members : goal.decreases-members
decreases-members l = length l.members
