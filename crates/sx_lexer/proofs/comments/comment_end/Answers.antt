use Rattle.std.proofs.Common.{◌||◌, arith, sym, ap, ◌∙◌}
use Rattle.sx_lexer.specs.Scans.{comment_end}
use Rattle.sx_lexer.proofs.CommentEnds.{no_first, no_second, closes, opens, inside, all_closed}
use Rattle.sx_lexer.proofs.comments.comment_end.Goals as goal

pub returns-in_default-clause-value : goal.returns-in_default-clause-value
returns-in_default-clause-value c = no_first c.loop-open.open c.loop-open.line c.loop-open.place.rest.now _ c.loop-open-test.true c.in_default.ensures.step c.loop-open.invariant.same

pub returns-in_default-step-clause-value : goal.returns-in_default-step-clause-value
returns-in_default-step-clause-value c = no_second c.loop-open.open c.loop-open.line c.in-Some.c c.loop-open.place.rest.now c.in-Some.next.rest.now _ c.loop-open-test.true c.in-Some.ensures.step c.in_default-step.ensures.step c.loop-open.invariant.same

pub loop-open-preserved-in-Closes : goal.loop-open-preserved-in-Closes
loop-open-preserved-in-Closes c = record {
  same = closes c.loop-open.line c.in-Some.c c.in-Some-step.d c.loop-open.place.rest.now c.in-Some.next.rest.now c.in-Some-step.behind.rest.now _ c.in-Some.ensures.step c.in-Some-step.ensures.step c.loop-open.open c.loop-open-test.true (sym c.in-Closes.ensures) c.loop-open.invariant.same;
  few = omega (arith, c.in-Some.ensures.shorter, c.in-Some-step.ensures.shorter, c.loop-open.invariant.few);
  shorter = omega (arith, c.in-Some.ensures.shorter, c.in-Some-step.ensures.shorter, c.loop-open.invariant.shorter);
}

pub loop-open-preserved-in-Opens : goal.loop-open-preserved-in-Opens
loop-open-preserved-in-Opens c = record {
  same = opens c.loop-open.line c.in-Some.c c.in-Some-step.d c.loop-open.place.rest.now c.in-Some.next.rest.now c.in-Some-step.behind.rest.now _ c.in-Some.ensures.step c.in-Some-step.ensures.step c.loop-open.open c.loop-open-test.true (sym c.in-Opens.ensures) c.loop-open.invariant.same;
  few = omega (arith, c.in-Some.ensures.shorter, c.in-Some-step.ensures.shorter, c.loop-open.invariant.few);
  shorter = omega (arith, c.in-Some.ensures.shorter, c.in-Some-step.ensures.shorter, c.loop-open.invariant.shorter);
}

pub loop-open-preserved : goal.loop-open-preserved
loop-open-preserved c = record {
  same = ap (λ b. comment_end c.loop-open.open (c.loop-open.line || b) c.in-Some.next.rest.now) c.is_line_end-line.ensures ∙ inside c.loop-open.line c.in-Some.c c.in-Some-step.d c.loop-open.place.rest.now c.in-Some.next.rest.now c.in-Some-step.behind.rest.now _ c.in-Some.ensures.step c.in-Some-step.ensures.step c.loop-open.open c.loop-open-test.true (sym c.in-Inside.ensures) c.loop-open.invariant.same;
  few = omega (arith, c.in-Some.ensures.shorter, c.loop-open.invariant.few);
  shorter = omega (arith, c.in-Some.ensures.shorter, c.loop-open.invariant.shorter);
}

pub returns-clause-value : goal.returns-clause-value
returns-clause-value c = all_closed c.loop-open.open c.loop-open.line c.loop-open.place.rest.now _ c.loop-open-test.false c.loop-open.invariant.same
