use Rattle.std.proofs.Common.{◌≡◌, ◌≤◌, ◌+◌, ◌^◌, length, min}
use Rattle.sx_lexer.specs.Words.{value_after}
use Rattle.sx_lexer.proofs.numbers.value.Given as goal

abbrev pub invariant-loop-byte : goal.invariant-loop-byte
invariant-loop-byte l = record {
  value : min (value_after l.base l.sum l.bytes) (2 ^ 63 + 1) ≡ min (value_after l.base 0 l.fn.bytes) (2 ^ 63 + 1);
  small : l.sum ≤ 2 ^ 63 + 1;
}

abbrev pub decreases-loop-byte : goal.decreases-loop-byte
decreases-loop-byte l = length l.bytes
