use Rattle.sx_lexer.proofs.TextEnds.{quit_end, quit_line, quit_quote, walk_on}
use Rattle.sx_lexer.proofs.texts.is_closed.Goals as goal

pub returns-then-is_line_end : goal.returns-then-is_line_end
returns-then-is_line_end c = quit_line c.loop-c.escaped c.loop-c.place.rest.now _ c.in-Some.c c.in-Some.next.rest.now c.in-Some.ensures.step c.loop-c.invariant c.if-is_line_end.ensures

pub returns-then-ends : goal.returns-then-ends
returns-then-ends c = quit_quote c.loop-c.escaped c.loop-c.place.rest.now _ c.in-Some.c c.in-Some.next.rest.now c.in-Some.ensures.step c.loop-c.invariant c.if-is_line_end.ensures c.if-ends.true

pub loop-c-preserved : goal.loop-c-preserved
loop-c-preserved c = walk_on c.loop-c.escaped c.loop-c.place.rest.now _ c.in-Some.c c.in-Some.next.rest.now c.in-Some.ensures.step c.loop-c.invariant c.if-is_line_end.ensures c.if-ends.false

pub returns : goal.returns
returns c = quit_end c.loop-c.escaped c.loop-c.place.rest.now _ c.in_default.ensures.step c.loop-c.invariant
