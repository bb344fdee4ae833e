use Rattle.std.proofs.Common.{◌≡◌, true, false, arith, sym, ◌∙◌}
use Rattle.std.proofs.lemmas.Result.{err_from_is_err_and}
use Rattle.sx_grammar.specs.Value.{a_statement, statements}
use Rattle.sx_grammar.specs.Grammar.{many, both, starts, first, run, done}
use Rattle.sx_grammar.specs.Rules.{block_item, block_items, row_item, separator, statement_in, first_of, list_in, body}
use Rattle.sx_grammar.proofs.Equations.{giving_is}
use Rattle.sx_parse_code.specs.Views.{leaf_or_nothing}
use Rattle.sx_parse_decl.proofs.Parts.{run_shorter, both_done, giving_done, first_stops, second_stops, giving_stops}
use Rattle.sx_parse_decl.proofs.Turns.{turn_goes, turns_end, turn_stops}
use Rattle.sx_parse_code.proofs.Firsts.{item_not_empty}
use Rattle.sx_parse_code.proofs.blocks.block_items.Goals as goal

pub turns-init : goal.turns-init
unfolding block_items
turns-init g c = rw c.new-items.ensures.items (sym (giving_is c.args.levels (λ v. statements (list_in statement_in v)) (many (row_item block_item)) c.args.lexemes.now))

pub returns-in_err-item : goal.returns-in_err-item
returns-in_err-item g c =
    let p = err_from_is_err_and c.from_residual.result c.from_residual.ensures.1 in
    let s : starts (first (row_item block_item)) c.turns.rest.now ≡ true = sym c.starts_item.ensures ∙ c.turns-test.true in
    rw (p.1, p.2) (turn_stops statement_in statements c.args.levels (row_item block_item) c.in_err-item.field-0.0 c.turns.items.items c.turns.rest.now _ item_not_empty s
    (giving_stops c.args.levels c.in_err-item.field-0.0 first_of (both block_item separator) c.turns.rest.now
    (first_stops c.args.levels c.in_err-item.field-0.0 block_item separator c.turns.rest.now c.in_err-item.ensures))
    c.turns.invariant)

pub returns-in_err-next : goal.returns-in_err-next
returns-in_err-next g c =
    let p = err_from_is_err_and c.from_residual-in_err-next.result c.from_residual-in_err-next.ensures.1 in
    let s : starts (first (row_item block_item)) c.turns.rest.now ≡ true = sym c.starts_item.ensures ∙ c.turns-test.true in
    rw (p.1, p.2) (turn_stops statement_in statements c.args.levels (row_item block_item) c.in_err-next.field-0.0 c.turns.items.items c.turns.rest.now _ item_not_empty s
    (giving_stops c.args.levels c.in_err-next.field-0.0 first_of (both block_item separator) c.turns.rest.now
    (second_stops c.args.levels c.in_err-next.field-0.0 block_item separator c.turns.rest.now c.in_ok-item.after.now (a_statement c.in_ok-item.item) c.in_ok-item.ensures c.in_err-next.ensures))
    c.turns.invariant)

pub turns-smaller : goal.turns-smaller
turns-smaller g c =
    let a = run_shorter c.args.levels (row_item block_item) c.turns.rest.now c.in_ok-next.next.now (a_statement c.in_ok-item.item) item_not_empty
    (giving_done c.args.levels first_of (both block_item separator) c.turns.rest.now c.in_ok-next.next.now _
    (both_done c.args.levels block_item separator c.turns.rest.now c.in_ok-item.after.now c.in_ok-next.next.now (a_statement c.in_ok-item.item) (leaf_or_nothing c.in_ok-next.field-0-0) c.in_ok-item.ensures c.in_ok-next.ensures)) in
    omega (arith, a)

pub turns-preserved : goal.turns-preserved
turns-preserved g c =
    let s : starts (first (row_item block_item)) c.turns.rest.now ≡ true = sym c.starts_item.ensures ∙ c.turns-test.true in
    let t : run body c.args.levels (row_item block_item) c.turns.rest.now ≡ done (a_statement c.in_ok-item.item) c.in_ok-next.next.now =
    giving_done c.args.levels first_of (both block_item separator) c.turns.rest.now c.in_ok-next.next.now _
    (both_done c.args.levels block_item separator c.turns.rest.now c.in_ok-item.after.now c.in_ok-next.next.now (a_statement c.in_ok-item.item) (leaf_or_nothing c.in_ok-next.field-0-0) c.in_ok-item.ensures c.in_ok-next.ensures) in
    rw c.in_ok-push.ensures.items (turn_goes statement_in statements c.args.levels (row_item block_item) c.turns.items.items (a_statement c.in_ok-item.item) c.turns.rest.now c.in_ok-next.next.now _ item_not_empty s t c.turns.invariant)

pub returns : goal.returns
returns g c =
    let s : starts (first (row_item block_item)) c.turns.rest.now ≡ false = sym c.starts_item.ensures ∙ c.turns-test.false in
    rw c.from_vec.ensures (turns_end statement_in statements c.args.levels (row_item block_item) c.turns.items.items c.turns.rest.now _ s c.turns.invariant)
