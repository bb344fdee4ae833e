use Rattle.std.proofs.Common.{◌≡◌, length, false}
use Rattle.sx_lexer.specs.Scans.{is_closed}
use Rattle.sx_lexer.proofs.texts.is_closed.Given as goal

abbrev pub invariant-loop-c : goal.invariant-loop-c
invariant-loop-c l = is_closed l.escaped l.place.rest.now ≡ is_closed false l.start.rest.now

abbrev pub decreases-loop-c : goal.decreases-loop-c
decreases-loop-c l = length l.place.rest.now
