use Rattle.std.proofs.Common.{◌≡◌, map, length}
use Rattle.sx_lexer.specs.Words.{among}
use Rattle.sx_lexer.proofs.tables.is_among.Given as goal

abbrev pub invariant-loop-table : goal.invariant-loop-table
invariant-loop-table l = among (map (λ f. f.now) l.table) l.bytes ≡ among (map (λ f. f.now) l.fn.table) l.bytes

abbrev pub decreases-loop-table : goal.decreases-loop-table
decreases-loop-table l = length l.table
