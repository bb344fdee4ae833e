use Rattle.std.proofs.Common.{◌≡◌, true, false, refl, arith, sym, ◌∙◌}
use Rattle.std.proofs.lemmas.Result.{err_from_is_err_and}
use Rattle.sx_grammar.specs.Value.{a_type_parameter, type_parameters}
use Rattle.sx_grammar.specs.Grammar.{many, both, starts, first}
use Rattle.sx_grammar.specs.Rules.{after_comma, type_parameter, type_parameter_in, type_parameter_list, any_type}
use Rattle.sx_parse_decl.proofs.Parts.{run_shorter}
use Rattle.sx_parse_decl.proofs.Turns.{turn_goes, turns_end, turn_stops}
use Rattle.sx_parse_decl.proofs.Lists.{list_begins, list_stops, list_none}
use Rattle.sx_parse_decl.proofs.types.+types.Goals as goal

pub type_parameters-returns-then-not-starts_with : goal.type_parameters-returns-then-not-starts_with
unfolding type_parameter_list type_parameter any_type
type_parameters-returns-then-not-starts_with t c =
    let s : starts (first (both type_parameter (many (after_comma type_parameter)))) c.args.lexemes.now ≡ false = sym c.starts_with.ensures ∙ c.if-not-starts_with.true in
    rw c.new-parameters.ensures.items (list_none type_parameter_in type_parameters c.args.levels type_parameter (after_comma type_parameter) c.args.lexemes.now s)

pub type_parameters-returns-in_err-head : goal.type_parameters-returns-in_err-head
unfolding type_parameter_list type_parameter any_type
type_parameters-returns-in_err-head t c =
    let p = err_from_is_err_and c.from_residual.result c.from_residual.ensures.1 in
    let s : starts (first (both type_parameter (many (after_comma type_parameter)))) c.args.lexemes.now ≡ true = sym c.starts_with.ensures ∙ c.if-not-starts_with.false in
    rw (p.1, p.2) (list_stops type_parameter_in type_parameters c.args.levels type_parameter (after_comma type_parameter) c.in_err-head.field-0.0 c.args.lexemes.now s c.in_err-head.ensures)

pub type_parameters-turns-init : goal.type_parameters-turns-init
unfolding type_parameter_list type_parameter any_type
type_parameters-turns-init t c =
    let s : starts (first (both type_parameter (many (after_comma type_parameter)))) c.args.lexemes.now ≡ true = sym c.starts_with.ensures ∙ c.if-not-starts_with.false in
    rw (c.in_ok-push.ensures.items, c.new-parameters.ensures.items) (list_begins type_parameter_in type_parameters c.args.levels type_parameter (after_comma type_parameter) (a_type_parameter c.in_ok-head.head) c.args.lexemes.now c.in_ok-head.rest.now s c.in_ok-head.ensures)

pub type_parameters-returns-in_err-next : goal.type_parameters-returns-in_err-next
unfolding type_parameter any_type
type_parameters-returns-in_err-next t c =
    let p = err_from_is_err_and c.from_residual-in_err-next.result c.from_residual-in_err-next.ensures.1 in
    let s : starts (first (after_comma type_parameter)) c.turns.rest.now ≡ true = sym c.starts_with-in-turns.ensures ∙ c.turns-test.true in
    rw (p.1, p.2) (turn_stops type_parameter_in type_parameters c.args.levels (after_comma type_parameter) c.in_err-next.field-0.0 c.turns.parameters.items c.turns.rest.now _ refl s c.in_err-next.ensures c.turns.invariant)

pub type_parameters-turns-smaller : goal.type_parameters-turns-smaller
type_parameters-turns-smaller t c = let a = run_shorter c.args.levels (after_comma type_parameter) c.turns.rest.now c.in_ok-next.after.now (a_type_parameter c.in_ok-next.next) refl c.in_ok-next.ensures in omega (arith, a)

pub type_parameters-turns-preserved : goal.type_parameters-turns-preserved
unfolding type_parameter any_type
type_parameters-turns-preserved t c =
    let s : starts (first (after_comma type_parameter)) c.turns.rest.now ≡ true = sym c.starts_with-in-turns.ensures ∙ c.turns-test.true in
    rw c.in_ok-push-2.ensures.items (turn_goes type_parameter_in type_parameters c.args.levels (after_comma type_parameter) c.turns.parameters.items (a_type_parameter c.in_ok-next.next) c.turns.rest.now c.in_ok-next.after.now _ refl s c.in_ok-next.ensures c.turns.invariant)

pub type_parameters-returns : goal.type_parameters-returns
unfolding type_parameter any_type
type_parameters-returns t c =
    let s : starts (first (after_comma type_parameter)) c.turns.rest.now ≡ false = sym c.starts_with-in-turns.ensures ∙ c.turns-test.false in
    turns_end type_parameter_in type_parameters c.args.levels (after_comma type_parameter) c.turns.parameters.items c.turns.rest.now _ s c.turns.invariant
