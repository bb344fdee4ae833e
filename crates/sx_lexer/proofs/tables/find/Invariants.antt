use Rattle.std.proofs.Common.{◌≡◌, map, length}
use Rattle.sx_lexer.specs.Words.{lookup}
use Rattle.sx_lexer.proofs.tables.find.Given as goal

abbrev pub invariant-loop-table : goal.invariant-loop-table
invariant-loop-table g l = lookup (map (λ f. (f.0.now, f.1)) l.table) l.bytes ≡ lookup (map (λ f. (f.0.now, f.1)) l.fn.table) l.bytes

abbrev pub decreases-loop-table : goal.decreases-loop-table
decreases-loop-table g l = length l.table
