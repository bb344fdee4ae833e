use Rattle.std.proofs.Common.{◌≡◌, true, false, refl, arith, sym, ◌∙◌}
use Rattle.std.proofs.lemmas.Result.{err_from_is_err_and}
use Rattle.sx_grammar.specs.Value.{an_expr, exprs}
use Rattle.sx_grammar.specs.Grammar.{starts, first, many}
use Rattle.sx_grammar.specs.Rules.{after_comma, expr, expr_in, listed_in}
use Rattle.sx_grammar.specs.declared.lexemes.Mode.TheVariants as modes
use Rattle.sx_parse_decl.proofs.Parts.{first_stops, giving_stops, run_shorter}
use Rattle.sx_parse_decl.proofs.Turns.{turn_goes, turns_end, turn_stops}
use Rattle.sx_parse_decl.proofs.Lists.{full_begins}
use Rattle.sx_parse_expr.proofs.arguments.index_items.Goals as goal

pub returns-in_err-head : goal.returns-in_err-head
returns-in_err-head g c =
    let p = err_from_is_err_and c.from_residual.result c.from_residual.ensures.1 in
    rw (p.1, p.2) (giving_stops c.args.levels c.in_err-head.field-0.0 (λ v. exprs (listed_in expr_in v)) _ c.args.lexemes.now (first_stops c.args.levels c.in_err-head.field-0.0 (expr modes.Free) (many (after_comma (expr modes.Free))) c.args.lexemes.now c.in_err-head.ensures))

pub turns-init : goal.turns-init
turns-init g c = rw (c.in_ok-push.ensures.items, c.new-indices.ensures.items) (full_begins expr_in exprs c.args.levels (expr modes.Free) (after_comma (expr modes.Free)) (an_expr c.in_ok-head.head) c.args.lexemes.now c.in_ok-head.rest.now c.in_ok-head.ensures)

pub returns-in_err-next : goal.returns-in_err-next
returns-in_err-next g c =
    let p = err_from_is_err_and c.from_residual-in_err-next.result c.from_residual-in_err-next.ensures.1 in
    let s : starts (first (after_comma (expr modes.Free))) c.turns.rest.now ≡ true = sym c.starts_with.ensures ∙ c.turns-test.true in
    rw (p.1, p.2) (turn_stops expr_in exprs c.args.levels (after_comma (expr modes.Free)) c.in_err-next.field-0.0 c.turns.indices.items c.turns.rest.now _ refl s c.in_err-next.ensures c.turns.invariant)

pub turns-smaller : goal.turns-smaller
turns-smaller g c = let a = run_shorter c.args.levels (after_comma (expr modes.Free)) c.turns.rest.now c.in_ok-next.after.now (an_expr c.in_ok-next.next) refl c.in_ok-next.ensures in omega (arith, a)

pub turns-preserved : goal.turns-preserved
turns-preserved g c =
    let s : starts (first (after_comma (expr modes.Free))) c.turns.rest.now ≡ true = sym c.starts_with.ensures ∙ c.turns-test.true in
    rw c.in_ok-push-2.ensures.items (turn_goes expr_in exprs c.args.levels (after_comma (expr modes.Free)) c.turns.indices.items (an_expr c.in_ok-next.next) c.turns.rest.now c.in_ok-next.after.now _ refl s c.in_ok-next.ensures c.turns.invariant)

pub returns : goal.returns
returns g c =
    let s : starts (first (after_comma (expr modes.Free))) c.turns.rest.now ≡ false = sym c.starts_with.ensures ∙ c.turns-test.false in
    rw c.from_vec.ensures (turns_end expr_in exprs c.args.levels (after_comma (expr modes.Free)) c.turns.indices.items c.turns.rest.now _ s c.turns.invariant)
