use Rattle.std.proofs.Common.{◌≡◌, ◌++◌, drop}
use Rattle.swiftx.specs.Found.{bytes_of_all}
use Rattle.swiftx.specs.PrintCode.{AreShort, code_of}
use Rattle.swiftx.proofs.print_code.code_of.Given as goal

abbrev pub invariant-loop-literal : goal.invariant-loop-literal
invariant-loop-literal l = record {
  made : l.code.items ++ code_of (bytes_of_all (drop l.literal-index l.literals)) ≡ code_of (bytes_of_all l.literals);
  short : AreShort (bytes_of_all (drop l.literal-index l.literals));
}
