use Rattle.std.proofs.Common.{◌≡◌, ◌≤◌, length, take}
use Rattle.sx_scope.specs.Names as names
use Rattle.sx_scope.proofs.locals.innermost.Given as goal

abbrev pub invariant-inside_out : goal.invariant-inside_out
invariant-inside_out l = (l.index ≤ length l.locals) × (names.local_of (take l.index l.locals) l.name ≡ names.local_of l.locals l.name)

abbrev pub decreases-inside_out : goal.decreases-inside_out
decreases-inside_out l = l.index
