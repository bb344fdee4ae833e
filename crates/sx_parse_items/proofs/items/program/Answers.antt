use Rattle.std.proofs.Common.{◌≡◌, true, false, arith, sym, ◌∙◌}
use Rattle.std.proofs.lemmas.Result.{err_from_is_err_and}
use Rattle.sx_grammar.specs.Value.{an_item, items}
use Rattle.sx_grammar.specs.Grammar.{starts, first}
use Rattle.sx_grammar.specs.Rules.{program, item_in}
use Rattle.sx_parse_decl.proofs.Parts.{run_shorter}
use Rattle.sx_parse_decl.proofs.Turns.{turn_goes, turns_end, turn_stops}
use Rattle.sx_parse_items.specs.Parts.{program_item}
use Rattle.sx_parse_items.proofs.Firsts.{item_is_some}
use Rattle.sx_parse_items.proofs.Rows.{rows_begin}
use Rattle.sx_parse_items.proofs.items.program.Goals as goal

pub turns-init : goal.turns-init
unfolding program
turns-init c = rw c.new-items.ensures (rows_begin item_in items c.args.levels program_item c.args.lexemes.now)

pub returns-in_err-after : goal.returns-in_err-after
returns-in_err-after c =
    let p = err_from_is_err_and c.from_residual.result c.from_residual.ensures.1 in
    let s : starts (first program_item) c.turns.rest.now ≡ true = sym c.starts_item.ensures ∙ c.turns-test.true in
    rw (p.1, p.2) (turn_stops item_in items c.args.levels program_item c.in_err-after.field-0.0 c.turns.items c.turns.rest.now _ item_is_some s c.in_err-after.ensures c.turns.invariant)

pub turns-smaller : goal.turns-smaller
turns-smaller c = let x = c.in_ok-after.ensures in let a = run_shorter c.args.levels program_item c.turns.rest.now c.in_ok-after.after.now (an_item x.0) item_is_some x.2 in omega (arith, a)

pub turns-preserved : goal.turns-preserved
turns-preserved c =
    let x = c.in_ok-after.ensures in
    let s : starts (first program_item) c.turns.rest.now ≡ true = sym c.starts_item.ensures ∙ c.turns-test.true in
    rw x.1 (turn_goes item_in items c.args.levels program_item c.turns.items (an_item x.0) c.turns.rest.now c.in_ok-after.after.now _ item_is_some s x.2 c.turns.invariant)

pub returns : goal.returns
returns c =
    let s : starts (first program_item) c.turns.rest.now ≡ false = sym c.starts_item.ensures ∙ c.turns-test.false in
    turns_end item_in items c.args.levels program_item c.turns.items c.turns.rest.now _ s c.turns.invariant
