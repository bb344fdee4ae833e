use Rattle.std.proofs.Common.{◌+◌, ◌≤◌, ◌++◌, List, ℕ, true, length}
use Rattle.sx_lexer.specs.declared.faults.LexKind.{LexKind}
use Rattle.sx_lexer.specs.Lexis.{Lexes, Faults, Lexed}
use Rattle.sx_lexer.specs.Gathered.{Holds}
use Rattle.sx_lexer.proofs.gathering.gather.Given as goal

abbrev pub invariant-loop-gathered : goal.invariant-loop-gathered
invariant-loop-gathered l = record {
  done : List Lexed;
  lexes : (ts : List Lexed) → Lexes l.before.line l.before.space l.place.rest.now ts → Lexes true true l.start.rest.now (done ++ ts);
  faults : (k : LexKind) (p : List ℕ) → Faults l.place.rest.now k p → Faults l.start.rest.now k p;
  holds : Holds l.end l.gathered done;
  within : length l.place.bytes.now ≤ l.end;
  list : length l.gathered.list.items + length l.place.rest.now ≤ length l.start.rest.now;
  names : length l.gathered.names ≤ length l.gathered.list.items;
  texts : length l.gathered.texts.items ≤ length l.gathered.list.items;
}

abbrev pub decreases-loop-gathered : goal.decreases-loop-gathered
decreases-loop-gathered l = length l.place.rest.now
