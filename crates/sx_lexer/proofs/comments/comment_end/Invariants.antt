use Rattle.std.proofs.Common.{◌≡◌, ◌+◌, ◌≤◌, length, false}
use Rattle.sx_lexer.specs.Scans.{comment_end}
use Rattle.sx_lexer.proofs.comments.comment_end.Given as goal

abbrev pub invariant-loop-open : goal.invariant-loop-open
invariant-loop-open l = record {
  same : comment_end l.open l.line l.place.rest.now ≡ comment_end 1 false l.start.rest.now;
  few : l.open + length l.place.rest.now ≤ 1 + length l.start.rest.now;
  shorter : length l.place.rest.now ≤ length l.start.rest.now;
}

abbrev pub decreases-loop-open : goal.decreases-loop-open
decreases-loop-open l = length l.place.rest.now
