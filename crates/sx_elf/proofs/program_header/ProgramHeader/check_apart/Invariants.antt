use Rattle.std.proofs.Common.{◌≡◌, map, drop}
use Rattle.sx_elf.specs.Tests.{first_failing, overlap_test}
use Rattle.sx_elf.proofs.program_header.ProgramHeader.check_apart.Given as goal

abbrev pub invariant-loop-other : goal.invariant-loop-other
invariant-loop-other l = first_failing (map (overlap_test l.self) (drop l.other-index l.others)) ≡ first_failing (map (overlap_test l.self) l.others)
