use Rattle.std.proofs.Common.{◌≡◌, true, false, refl, arith, sym, ◌∙◌}
use Rattle.std.proofs.lemmas.Result.{err_from_is_err_and}
use Rattle.sx_grammar.specs.Value.{a_parameter, parameters}
use Rattle.sx_grammar.specs.Grammar.{starts, first}
use Rattle.sx_grammar.specs.Rules.{after_comma, subscript_parameter, parameter_in, subscript_parameter_list}
use Rattle.sx_parse_decl.proofs.Parts.{run_shorter}
use Rattle.sx_parse_decl.proofs.Turns.{turn_goes, turns_end, turn_stops}
use Rattle.sx_parse_decl.proofs.Lists.{full_begins}
use Rattle.sx_parse_decl.proofs.parameter_lists.subscript_parameter_list.Goals as goal

pub turns-init : goal.turns-init
unfolding subscript_parameter_list subscript_parameter
turns-init c = rw (c.in_ok-push.ensures.items, c.new-parameters.ensures.items) (full_begins parameter_in parameters c.args.levels subscript_parameter (after_comma subscript_parameter) (a_parameter c.in_ok-head.head) c.args.lexemes.now c.in_ok-head.rest.now c.in_ok-head.ensures)

pub returns-in_err-next : goal.returns-in_err-next
unfolding subscript_parameter
returns-in_err-next c =
    let p = err_from_is_err_and c.from_residual-in_err-next.result c.from_residual-in_err-next.ensures.1 in
    let s : starts (first (after_comma subscript_parameter)) c.turns.rest.now ≡ true = sym c.starts_with.ensures ∙ c.turns-test.true in
    rw (p.1, p.2) (turn_stops parameter_in parameters c.args.levels (after_comma subscript_parameter) c.in_err-next.field-0.0 c.turns.parameters.items c.turns.rest.now _ refl s c.in_err-next.ensures c.turns.invariant)

pub turns-smaller : goal.turns-smaller
turns-smaller c = let a = run_shorter c.args.levels (after_comma subscript_parameter) c.turns.rest.now c.in_ok-next.after.now (a_parameter c.in_ok-next.next) refl c.in_ok-next.ensures in omega (arith, a)

pub turns-preserved : goal.turns-preserved
unfolding subscript_parameter
turns-preserved c =
    let s : starts (first (after_comma subscript_parameter)) c.turns.rest.now ≡ true = sym c.starts_with.ensures ∙ c.turns-test.true in
    rw c.in_ok-push-2.ensures.items (turn_goes parameter_in parameters c.args.levels (after_comma subscript_parameter) c.turns.parameters.items (a_parameter c.in_ok-next.next) c.turns.rest.now c.in_ok-next.after.now _ refl s c.in_ok-next.ensures c.turns.invariant)

pub returns : goal.returns
unfolding subscript_parameter
returns c =
    let s : starts (first (after_comma subscript_parameter)) c.turns.rest.now ≡ false = sym c.starts_with.ensures ∙ c.turns-test.false in
    turns_end parameter_in parameters c.args.levels (after_comma subscript_parameter) c.turns.parameters.items c.turns.rest.now _ s c.turns.invariant
