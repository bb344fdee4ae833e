use Rattle.std.proofs.Common.{◌≡◌, ◌≤◌, ◌++◌, List, ℕ, length, false, true, string_bytes}
use Rattle.sx_lexer.specs.Scans.{is_closed}
use Rattle.sx_lexer.specs.Lexis.{Spells, BadEscapeAt}
use Rattle.sx_lexer.proofs.texts.spelled.Given as goal

abbrev pub invariant-loop-c : goal.invariant-loop-c
invariant-loop-c l = record {
  spells : (r v : List ℕ) → Spells l.place.rest.now r v → Spells l.start.rest.now r (string_bytes l.text ++ v);
  bad : (p : List ℕ) → BadEscapeAt l.place.rest.now p → BadEscapeAt l.start.rest.now p;
  closed : is_closed false l.place.rest.now ≡ true;
  shorter : length l.place.rest.now ≤ length l.start.rest.now;
}

abbrev pub decreases-loop-c : goal.decreases-loop-c
decreases-loop-c l = length l.place.rest.now
