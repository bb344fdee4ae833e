use Rattle.std.proofs.Common.{◌≡◌, [], length}
use Rattle.sx_tables.specs.Names.{no_numbers, type_names}
use Rattle.sx_tables.proofs.names.type_names.Given as goal

abbrev pub invariant-items : goal.invariant-items
invariant-items l = type_names l.reserved l.type_names l.before.names.keys l.before.numbers l.items ≡ type_names l.reserved l.fn.basic [] no_numbers l.fn.items

abbrev pub decreases-items : goal.decreases-items
decreases-items l = length l.items
