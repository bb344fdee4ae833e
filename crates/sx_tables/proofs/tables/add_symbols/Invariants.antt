use Rattle.std.proofs.Common.{◌≡◌, length}
use Rattle.sx_tables.specs.Tables.{with_entries}
use Rattle.sx_tables.proofs.tables.add_symbols.Given as goal

abbrev pub invariant-symbols : goal.invariant-symbols
invariant-symbols l = with_entries l.symbols l.table ≡ with_entries l.fn.symbols l.fn.table

abbrev pub decreases-symbols : goal.decreases-symbols
decreases-symbols l = length l.symbols
