use Rattle.std.proofs.Common.{◌≡◌, length}
use Rattle.sx_lexer.specs.Words.{are_digits}
use Rattle.sx_lexer.proofs.numbers.are_digits.Given as goal

abbrev pub invariant-loop-bytes : goal.invariant-loop-bytes
invariant-loop-bytes l = are_digits l.base l.bytes ≡ are_digits l.base l.fn.bytes

abbrev pub decreases-loop-bytes : goal.decreases-loop-bytes
decreases-loop-bytes l = length l.bytes
