use Rattle.std.proofs.Common.{length}
use Rattle.sx_parse_decl.proofs.cursor.+is_below.Given as goal

abbrev pub decreases-is_below : goal.decreases-is_below
decreases-is_below l = length l.sorts.now
