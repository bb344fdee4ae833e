use Rattle.std.proofs.Common.{◌≡◌, [], ◌++◌, length}
use Rattle.sx_tables.specs.Names.{bare_types, no_numbers}
use Rattle.sx_tables.proofs.names.bare_types.Given as goal

abbrev pub invariant-items : goal.invariant-items
invariant-items l =
    l.types ++ bare_types l.reserved l.kind l.faults l.before.names.keys l.before.numbers l.items l.nodes ≡ bare_types l.reserved l.kind l.faults [] no_numbers l.fn.items l.fn.nodes

abbrev pub decreases-items : goal.decreases-items
decreases-items l = length l.items
