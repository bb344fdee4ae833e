use Rattle.std.proofs.Common.{◌++◌, ◌<◌, ap, sym, subst, ◌∙◌}
use Rattle.sx_late.specs.Mentions.{statement_mentions}
use Rattle.sx_late.specs.Walking.{IsWalk, left_to_do}
use Rattle.sx_late.proofs.Turns.{turn_less}
use Rattle.sx_late.proofs.Walks.{walk_begins, after_turn, least_reached}
use Rattle.sx_late.proofs.reaching.reached.Goals as goal

pub work-init : goal.work-init
work-init c =
    let ms = statement_mentions c.args.typed.now c.args.statement.now in
    subst (λ work. IsWalk c.args.typed.now ms c.args.declared c.args.seen.now.keys _ work) (sym (c.in_ok-put_statement.ensures ∙ ap (λ work. work ++ ms) c.new-work.ensures))
    (walk_begins c.args.typed.now ms c.args.declared c.args.seen.now.keys c.requires)

pub work-smaller : goal.work-smaller
work-smaller c =
    subst (λ work. left_to_do c.args.typed.now c.turn.new.seen.keys c.turn.new.work < left_to_do c.args.typed.now c.work.seen.keys work) (sym c.in-Some.ensures)
    (turn_less c.args.typed.now c.work.seen.keys c.pop.new.self c.args.declared c.work.least c.in_ok-least.least c.turn.new.seen.keys c.turn.new.work c.in-Some.mentioned c.in_ok-least.ensures)

pub work-preserved : goal.work-preserved
work-preserved c =
    let ms = statement_mentions c.args.typed.now c.args.statement.now in
    after_turn c.args.typed.now ms c.args.declared c.work.seen.keys c.work.least c.pop.new.self c.turn.new.seen.keys c.in_ok-least.least c.turn.new.work c.in-Some.mentioned
    (subst (λ work. IsWalk c.args.typed.now ms c.args.declared c.work.seen.keys c.work.least work) c.in-Some.ensures c.work.invariant) c.in_ok-least.ensures

pub returns-clause-least : goal.returns-clause-least
returns-clause-least c =
    let ms = statement_mentions c.args.typed.now c.args.statement.now in
    least_reached c.args.typed.now ms c.args.declared c.work.seen.keys c.work.least
    (subst (λ work. IsWalk c.args.typed.now ms c.args.declared c.work.seen.keys c.work.least work) c.in_default.ensures.0 c.work.invariant)
