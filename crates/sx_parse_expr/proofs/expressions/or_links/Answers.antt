use Rattle.std.proofs.Common.{[], ◌∷◌, arith, sym, ◌∙◌}
use Rattle.std.proofs.lemmas.Result.{err_from_is_err_and}
use Rattle.sx_grammar.specs.Rules.{conjunction}
use Rattle.sx_grammar.specs.declared.lexemes.Sort.TheVariants as sorts
use Rattle.sx_parse_expr.proofs.Rows.{links_begin, link_goes, links_end, link_stops, link_shorter}
use Rattle.sx_parse_expr.proofs.expressions.or_links.Goals as goal

pub turns-init : goal.turns-init
turns-init g c = rw c.new-links.ensures.items (links_begin c.args.levels (sorts.Or ∷ []) (conjunction c.args.mode) c.args.lexemes.now)

pub returns-in_err-link : goal.returns-in_err-link
returns-in_err-link g c =
    let p = err_from_is_err_and c.from_residual.result c.from_residual.ensures.1 in
    rw (p.1, p.2) (link_stops c.args.levels (sorts.Or ∷ []) (conjunction c.args.mode) c.in_err-link.field-0.0 c.turns.links.items c.turns.rest.now _ (sym c.starts_with.ensures ∙ c.turns-test.true) c.in_err-link.ensures c.turns.invariant)

pub turns-smaller : goal.turns-smaller
turns-smaller g c = let a = link_shorter c.args.levels (sorts.Or ∷ []) (conjunction c.args.mode) c.in_ok-link.link c.turns.rest.now c.in_ok-link.after.now c.in_ok-link.ensures in omega (arith, a)

pub turns-preserved : goal.turns-preserved
turns-preserved g c = rw c.in_ok-push.ensures.items (link_goes c.args.levels (sorts.Or ∷ []) (conjunction c.args.mode) c.turns.links.items c.in_ok-link.link c.turns.rest.now c.in_ok-link.after.now _ (sym c.starts_with.ensures ∙ c.turns-test.true) c.in_ok-link.ensures c.turns.invariant)

pub returns : goal.returns
returns g c = rw c.from_vec.ensures (links_end c.args.levels (sorts.Or ∷ []) (conjunction c.args.mode) c.turns.links.items c.turns.rest.now _ (sym c.starts_with.ensures ∙ c.turns-test.false) c.turns.invariant)
