use Rattle.std.proofs.Common.{◌≡◌, drop}
use Rattle.sx_rv_machine.specs.Memory.{bytes_at}
use Rattle.sx_rv_machine.proofs.memory.bytes_at.Given as goal

abbrev pub invariant-loop-area : goal.invariant-loop-area
invariant-loop-area l = bytes_at (drop l.area-index l.areas) l.permission l.address l.count ≡ bytes_at l.areas l.permission l.address l.count
