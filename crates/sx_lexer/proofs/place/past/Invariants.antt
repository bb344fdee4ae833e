use Rattle.std.proofs.Common.{◌≤◌, List, ℕ, length}
use Rattle.sx_lexer.specs.Characters.{Run}
use Rattle.sx_lexer.proofs.place.past.Given as goal

abbrev pub invariant-loop-next : goal.invariant-loop-next
invariant-loop-next l = record {
  rest : (r : List ℕ) → Run l.kind l.place.rest.now r → Run l.kind l.start.rest.now r;
  shorter : length l.place.rest.now ≤ length l.start.rest.now;
  fewer_bytes : length l.place.bytes.now ≤ length l.start.bytes.now;
}

abbrev pub decreases-loop-next : goal.decreases-loop-next
decreases-loop-next l = length l.place.rest.now
