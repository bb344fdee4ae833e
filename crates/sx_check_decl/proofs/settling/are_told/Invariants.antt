use Rattle.std.proofs.Common.{◌≡◌, ◌++◌, length, map, is_some}
use Rattle.sx_check_decl.proofs.settling.are_told.Given as goal

abbrev pub invariant-faults : goal.invariant-faults
invariant-faults l = l.told.items ++ map is_some l.faults ≡ map is_some l.fn.faults

abbrev pub decreases-faults : goal.decreases-faults
decreases-faults l = length l.faults
