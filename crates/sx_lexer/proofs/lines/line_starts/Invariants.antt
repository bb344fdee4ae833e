use Rattle.std.proofs.Common.{◌≡◌, ◌++◌, ◌+◌, length}
use Rattle.sx_span.specs.Lines.{starts_from, line_starts}
use Rattle.sx_lexer.proofs.lines.line_starts.Given as goal

abbrev pub invariant-loop-byte : goal.invariant-loop-byte
invariant-loop-byte l = record {
  starts : l.starts.items ++ starts_from l.place l.rest ≡ line_starts l.text;
  place : l.place + length l.rest ≡ length l.text;
}

abbrev pub decreases-loop-byte : goal.decreases-loop-byte
decreases-loop-byte l = length l.rest
