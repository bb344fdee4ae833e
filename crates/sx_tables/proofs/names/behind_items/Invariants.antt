use Rattle.std.proofs.Common.{◌≡◌, length}
use Rattle.sx_tables.specs.Names.{behind_items, no_numbers}
use Rattle.sx_tables.proofs.names.behind_items.Given as goal

abbrev pub invariant-items : goal.invariant-items
invariant-items l = behind_items l.items l.numbers ≡ behind_items l.fn.items no_numbers

abbrev pub decreases-items : goal.decreases-items
decreases-items l = length l.items
