use Rattle.std.proofs.Common.{take}
use Rattle.swiftx.specs.Prints.{IsLiteral}
use Rattle.swiftx.proofs.prints.plain_size.Given as goal

abbrev pub invariant-loop-i : goal.invariant-loop-i
invariant-loop-i l = IsLiteral (take l.i l.bytes)
