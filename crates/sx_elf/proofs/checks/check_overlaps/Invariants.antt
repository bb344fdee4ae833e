use Rattle.std.proofs.Common.{◌≡◌, drop}
use Rattle.sx_elf.specs.Tests.{first_failing, overlap_tests}
use Rattle.sx_elf.proofs.checks.check_overlaps.Given as goal

abbrev pub invariant-loop-number : goal.invariant-loop-number
invariant-loop-number l = first_failing (overlap_tests (drop l.number l.segments)) ≡ first_failing (overlap_tests l.segments)
