use Rattle.std.proofs.Common.{◌≡◌, ◌++◌, drop}
use Rattle.swiftx.specs.PrintCode.{word_bytes}
use Rattle.swiftx.proofs.print_code.put_all.Given as goal

abbrev pub invariant-loop-instruction : goal.invariant-loop-instruction
invariant-loop-instruction l = l.code.items ++ word_bytes (drop l.instruction-index l.instructions) ≡ l.fn.code.items ++ word_bytes l.instructions
