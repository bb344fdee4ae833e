use Rattle.std.proofs.Common.{length}
use Rattle.sx_parse_decl.proofs.cursor.+is_among.Given as goal

abbrev pub decreases-is_among : goal.decreases-is_among
decreases-is_among l = length l.sorts.now
