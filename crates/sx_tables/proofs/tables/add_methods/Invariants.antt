use Rattle.std.proofs.Common.{◌≡◌, ◌++◌, length}
use Rattle.sx_tables.specs.Tables.{methods}
use Rattle.sx_tables.proofs.tables.add_methods.Given as goal

abbrev pub invariant-members : goal.invariant-members
invariant-members l = l.functions ++ methods l.declarations l.owner l.members l.nodes ≡ l.fn.functions ++ methods l.declarations l.owner l.fn.members l.fn.nodes

abbrev pub decreases-members : goal.decreases-members
decreases-members l = length l.members
