use Rattle.std.proofs.Common.{◌≡◌, ◌++◌, length}
use Rattle.sx_tables.specs.Names.{no_numbers}
use Rattle.sx_tables.specs.Tables.{full_types}
use Rattle.sx_tables.proofs.tables.types_in.Given as goal

abbrev pub invariant-items : goal.invariant-items
invariant-items l = l.types ++ full_types l.declarations l.kind l.numbers l.items l.nodes ≡ full_types l.declarations l.kind no_numbers l.fn.items l.fn.nodes

abbrev pub decreases-items : goal.decreases-items
decreases-items l = length l.items
