use Rattle.std.proofs.lemmas.Result.{err_from_is_err_and}
use Rattle.sx_bodies.proofs.Failing.{carried}
use Rattle.sx_check_decl.proofs.Runs.{stopped, went_on}
use Rattle.sx_check_decl.proofs.items.judge_items.Goals as goal

pub returns-in_err-found : goal.returns-in_err-found
returns-in_err-found c =
    let p = err_from_is_err_and c.from_residual.result c.from_residual.ensures.1 in
    rw (p.1, p.2) (carried c.in_err-found.field-0.0 c.turn.new.walk _ _ _
    (λ fs w h. stopped c.args.settled.now c.args.own c.args.blame _ _ fs c.items.walk w c.items.before.seen.keys c.items.before.numbers c.items.before.words c.items.items.now c.in-Some.item.now c.in-Some.rest.now _ c.in-Some.ensures.cases.0 c.items.invariant h)
    c.in_err-found.ensures.found)

pub items-preserved : goal.items-preserved
items-preserved c =
    went_on c.args.settled.now c.args.own c.args.blame c.items.program c.in_ok-program.program c.in_ok-found.found c.items.walk c.turn.new.walk c.items.before.seen.keys c.turn.new.before.seen.keys c.items.before.numbers c.turn.new.before.numbers c.items.before.words c.turn.new.before.words c.items.items.now c.in-Some.item.now c.in-Some.rest.now _ c.in-Some.ensures.cases.0 c.items.invariant c.in_ok-found.ensures.found
    (c.in_ok-program.ensures c.items.walk c.turn.new.walk) c.in_ok-found.ensures.seen c.in_ok-found.ensures.numbers c.in_ok-found.ensures.words
