use Rattle.std.proofs.Common.{length}
use Rattle.sx_parse_decl.proofs.cursor.+is_here.Given as goal

abbrev pub decreases-is_here : goal.decreases-is_here
decreases-is_here l = length l.sorts.now
