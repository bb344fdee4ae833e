use Rattle.std.proofs.Common.{arith}
use Rattle.sx_lexer.proofs.Runs.{ends_at, ends_before, goes_on}
use Rattle.sx_lexer.proofs.place.past.Goals as goal

pub loop-next-init : goal.loop-next-init
loop-next-init c = record { rest = λ r x. x; shorter = omega arith; fewer_bytes = omega arith }

pub returns-then-not-runs-clause-run : goal.returns-then-not-runs-clause-run
returns-then-not-runs-clause-run c = c.loop-next.invariant.rest _ (ends_before c.args.kind c.loop-next.place.rest.now c.runs.result c.runs.ensures c.if-not-runs.true)

pub loop-next-preserved : goal.loop-next-preserved
loop-next-preserved c = record { rest = λ r x. c.loop-next.invariant.rest r (goes_on c.args.kind c.in-Some.field-0-0 c.in-Some.next.rest.now c.loop-next.place.rest.now r c.runs.result c.runs.ensures c.if-not-runs.false c.in-Some.ensures.step x); shorter = omega (arith, c.in-Some.ensures.shorter, c.loop-next.invariant.shorter); fewer_bytes = omega (arith, c.in-Some.ensures.fewer_bytes, c.loop-next.invariant.fewer_bytes) }

pub returns-clause-run : goal.returns-clause-run
returns-clause-run c = c.loop-next.invariant.rest _ (ends_at c.args.kind c.loop-next.place.rest.now (c.in_default.ensures {u = tt}).step)
