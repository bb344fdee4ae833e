use Rattle.std.proofs.Common.{◌+◌, ◌*◌}
use Rattle.sx_parse_code.proofs.code.+knot.Given as goal

abbrev pub decreases-deeper : goal.decreases-deeper
decreases-deeper l = l.fewer * 2 + 1

abbrev pub decreases-read_inside : goal.decreases-read_inside
decreases-read_inside l = l.levels * 2
