use Rattle.std.proofs.Common.{◌≡◌, true, false, refl, arith, sym, ◌∙◌}
use Rattle.std.proofs.lemmas.Result.{err_from_is_err_and}
use Rattle.sx_grammar.specs.Value.{a_parameter, parameters}
use Rattle.sx_grammar.specs.Grammar.{many, both, starts, first}
use Rattle.sx_grammar.specs.Rules.{after_comma, parameter, parameter_in, parameter_list, parameter_names}
use Rattle.sx_parse_decl.proofs.Parts.{run_shorter}
use Rattle.sx_parse_decl.proofs.Turns.{turn_goes, turns_end, turn_stops}
use Rattle.sx_parse_decl.proofs.Lists.{list_begins, list_stops, list_none}
use Rattle.sx_parse_decl.proofs.parameter_lists.parameter_list.Goals as goal

pub returns-then-not-starts_with : goal.returns-then-not-starts_with
unfolding parameter_list parameter parameter_names
returns-then-not-starts_with c =
    let s : starts (first (both parameter (many (after_comma parameter)))) c.args.lexemes.now ≡ false = sym c.starts_with.ensures ∙ c.if-not-starts_with.true in
    rw c.new-parameters.ensures.items (list_none parameter_in parameters c.args.levels parameter (after_comma parameter) c.args.lexemes.now s)

pub returns-in_err-head : goal.returns-in_err-head
unfolding parameter_list parameter parameter_names
returns-in_err-head c =
    let p = err_from_is_err_and c.from_residual.result c.from_residual.ensures.1 in
    let s : starts (first (both parameter (many (after_comma parameter)))) c.args.lexemes.now ≡ true = sym c.starts_with.ensures ∙ c.if-not-starts_with.false in
    rw (p.1, p.2) (list_stops parameter_in parameters c.args.levels parameter (after_comma parameter) c.in_err-head.field-0.0 c.args.lexemes.now s c.in_err-head.ensures)

pub turns-init : goal.turns-init
unfolding parameter_list parameter parameter_names
turns-init c =
    let s : starts (first (both parameter (many (after_comma parameter)))) c.args.lexemes.now ≡ true = sym c.starts_with.ensures ∙ c.if-not-starts_with.false in
    rw (c.in_ok-push.ensures.items, c.new-parameters.ensures.items) (list_begins parameter_in parameters c.args.levels parameter (after_comma parameter) (a_parameter c.in_ok-head.head) c.args.lexemes.now c.in_ok-head.rest.now s c.in_ok-head.ensures)

pub returns-in_err-next : goal.returns-in_err-next
unfolding parameter parameter_names
returns-in_err-next c =
    let p = err_from_is_err_and c.from_residual-in_err-next.result c.from_residual-in_err-next.ensures.1 in
    let s : starts (first (after_comma parameter)) c.turns.rest.now ≡ true = sym c.starts_with-in-turns.ensures ∙ c.turns-test.true in
    rw (p.1, p.2) (turn_stops parameter_in parameters c.args.levels (after_comma parameter) c.in_err-next.field-0.0 c.turns.parameters.items c.turns.rest.now _ refl s c.in_err-next.ensures c.turns.invariant)

pub turns-smaller : goal.turns-smaller
turns-smaller c = let a = run_shorter c.args.levels (after_comma parameter) c.turns.rest.now c.in_ok-next.after.now (a_parameter c.in_ok-next.next) refl c.in_ok-next.ensures in omega (arith, a)

pub turns-preserved : goal.turns-preserved
unfolding parameter parameter_names
turns-preserved c =
    let s : starts (first (after_comma parameter)) c.turns.rest.now ≡ true = sym c.starts_with-in-turns.ensures ∙ c.turns-test.true in
    rw c.in_ok-push-2.ensures.items (turn_goes parameter_in parameters c.args.levels (after_comma parameter) c.turns.parameters.items (a_parameter c.in_ok-next.next) c.turns.rest.now c.in_ok-next.after.now _ refl s c.in_ok-next.ensures c.turns.invariant)

pub returns : goal.returns
unfolding parameter parameter_names
returns c =
    let s : starts (first (after_comma parameter)) c.turns.rest.now ≡ false = sym c.starts_with-in-turns.ensures ∙ c.turns-test.false in
    turns_end parameter_in parameters c.args.levels (after_comma parameter) c.turns.parameters.items c.turns.rest.now _ s c.turns.invariant
