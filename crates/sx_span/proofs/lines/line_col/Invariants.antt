use Rattle.std.proofs.Common.{◌≡◌, ◌+◌, ◌≤◌, length}
use Rattle.sx_span.specs.Lines.{starts_from, line_starts, count_to, last_to}
use Rattle.sx_span.proofs.lines.line_col.Given as goal

abbrev pub invariant-loop-byte : goal.invariant-loop-byte
invariant-loop-byte l = record {
  count : l.line + count_to l.at (starts_from l.place l.rest) ≡ count_to l.at (line_starts l.text);
  last : last_to l.start l.at (starts_from l.place l.rest) ≡ last_to 0 l.at (line_starts l.text);
  place : l.place + length l.rest ≡ length l.text;
  within : l.place ≤ l.at;
  start : l.start ≤ l.place;
  line : l.line ≤ l.place + 1;
}

abbrev pub decreases-loop-byte : goal.decreases-loop-byte
decreases-loop-byte l = length l.rest
