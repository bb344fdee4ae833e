use Rattle.std.proofs.Common.{length}
use Rattle.sx_typed.specs.Functions.{RiseByNode}
use Rattle.sx_check_decl.proofs.checking.rise.Given as goal

abbrev pub invariant-functions : goal.invariant-functions
invariant-functions l = RiseByNode l.functions → RiseByNode l.fn.functions

abbrev pub decreases-functions : goal.decreases-functions
decreases-functions l = length l.functions
