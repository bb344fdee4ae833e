use Rattle.std.proofs.Common.{◌≡◌, true, false, refl, arith, sym, ◌∙◌}
use Rattle.std.proofs.lemmas.Result.{err_from_is_err_and}
use Rattle.sx_grammar.specs.Value.{an_argument, arguments}
use Rattle.sx_grammar.specs.Grammar.{many, both, starts, first}
use Rattle.sx_grammar.specs.Rules.{after_comma, argument, argument_in}
use Rattle.sx_parse_decl.proofs.Parts.{run_shorter}
use Rattle.sx_parse_decl.proofs.Turns.{turn_goes, turns_end, turn_stops}
use Rattle.sx_parse_decl.proofs.Lists.{list_begins, list_stops, list_none}
use Rattle.sx_parse_expr.proofs.Rows.{argument_begins}
use Rattle.sx_parse_expr.proofs.arguments.argument_items.Goals as goal

pub returns-then-not-starts_argument : goal.returns-then-not-starts_argument
returns-then-not-starts_argument g c =
    let s : starts (first (both argument (many (after_comma argument)))) c.args.lexemes.now ≡ false = argument_begins c.args.lexemes.now ∙ sym c.starts_argument.ensures ∙ c.if-not-starts_argument.true in
    rw (c.from_vec.ensures, c.new-arguments.ensures.items) (list_none argument_in arguments c.args.levels argument (after_comma argument) c.args.lexemes.now s)

pub returns-in_err-head : goal.returns-in_err-head
returns-in_err-head g c =
    let p = err_from_is_err_and c.from_residual.result c.from_residual.ensures.1 in
    let s : starts (first (both argument (many (after_comma argument)))) c.args.lexemes.now ≡ true = argument_begins c.args.lexemes.now ∙ sym c.starts_argument.ensures ∙ c.if-not-starts_argument.false in
    rw (p.1, p.2) (list_stops argument_in arguments c.args.levels argument (after_comma argument) c.in_err-head.field-0.0 c.args.lexemes.now s c.in_err-head.ensures)

pub turns-init : goal.turns-init
turns-init g c =
    let s : starts (first (both argument (many (after_comma argument)))) c.args.lexemes.now ≡ true = argument_begins c.args.lexemes.now ∙ sym c.starts_argument.ensures ∙ c.if-not-starts_argument.false in
    rw (c.in_ok-push.ensures.items, c.new-arguments.ensures.items) (list_begins argument_in arguments c.args.levels argument (after_comma argument) (an_argument c.in_ok-head.head) c.args.lexemes.now c.in_ok-head.rest.now s c.in_ok-head.ensures)

pub returns-in_err-next : goal.returns-in_err-next
returns-in_err-next g c =
    let p = err_from_is_err_and c.from_residual-in_err-next.result c.from_residual-in_err-next.ensures.1 in
    let s : starts (first (after_comma argument)) c.turns.rest.now ≡ true = sym c.starts_with.ensures ∙ c.turns-test.true in
    rw (p.1, p.2) (turn_stops argument_in arguments c.args.levels (after_comma argument) c.in_err-next.field-0.0 c.turns.arguments.items c.turns.rest.now _ refl s c.in_err-next.ensures c.turns.invariant)

pub turns-smaller : goal.turns-smaller
turns-smaller g c = let a = run_shorter c.args.levels (after_comma argument) c.turns.rest.now c.in_ok-next.after.now (an_argument c.in_ok-next.next) refl c.in_ok-next.ensures in omega (arith, a)

pub turns-preserved : goal.turns-preserved
turns-preserved g c =
    let s : starts (first (after_comma argument)) c.turns.rest.now ≡ true = sym c.starts_with.ensures ∙ c.turns-test.true in
    rw c.in_ok-push-2.ensures.items (turn_goes argument_in arguments c.args.levels (after_comma argument) c.turns.arguments.items (an_argument c.in_ok-next.next) c.turns.rest.now c.in_ok-next.after.now _ refl s c.in_ok-next.ensures c.turns.invariant)

pub returns : goal.returns
returns g c =
    let s : starts (first (after_comma argument)) c.turns.rest.now ≡ false = sym c.starts_with.ensures ∙ c.turns-test.false in
    rw c.from_vec-2.ensures (turns_end argument_in arguments c.args.levels (after_comma argument) c.turns.arguments.items c.turns.rest.now _ s c.turns.invariant)
