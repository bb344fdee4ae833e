use Rattle.std.proofs.Common.{◌≡◌, [], length}
use Rattle.sx_tables.specs.Named.{named_from}
use Rattle.sx_tables.specs.Names.{no_numbers}
use Rattle.sx_tables.proofs.named.named_behind.Given as goal

abbrev pub invariant-items : goal.invariant-items
invariant-items l = named_from l.reserved l.types.entries l.before.names.keys l.before.numbers l.items ≡ named_from l.reserved l.fn.basic.entries [] no_numbers l.fn.items

abbrev pub decreases-items : goal.decreases-items
decreases-items l = length l.items
