use Rattle.std.proofs.Common.{◌≡◌, ◌++◌, length}
use Rattle.sx_tables.specs.Names.{no_numbers}
use Rattle.sx_tables.specs.Tables.{functions}
use Rattle.sx_tables.proofs.tables.functions_in.Given as goal

abbrev pub invariant-items : goal.invariant-items
invariant-items l = l.functions ++ functions l.declarations l.numbers l.items l.nodes ≡ functions l.declarations no_numbers l.fn.items l.fn.nodes

abbrev pub decreases-items : goal.decreases-items
decreases-items l = length l.items
