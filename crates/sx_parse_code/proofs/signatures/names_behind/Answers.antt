use Rattle.std.proofs.Common.{◌≡◌, true, false, refl, arith, sym, ◌∙◌}
use Rattle.std.proofs.lemmas.Result.{err_from_is_err_and}
use Rattle.sx_grammar.specs.Value.{leaf, name_list}
use Rattle.sx_grammar.specs.Grammar.{many, starts, first}
use Rattle.sx_grammar.specs.Rules.{after_comma, list_in, a_name, name_in, names_behind}
use Rattle.sx_grammar.proofs.Equations.{giving_is}
use Rattle.sx_parse_decl.proofs.Parts.{run_shorter}
use Rattle.sx_parse_decl.proofs.Turns.{turn_goes, turns_end, turn_stops}
use Rattle.sx_parse_code.proofs.signatures.names_behind.Goals as goal

pub turns-init : goal.turns-init
unfolding names_behind
turns-init c = rw c.new-names.ensures.items (sym (giving_is c.args.levels (λ v. name_list (list_in name_in v)) (many (after_comma a_name)) c.args.lexemes.now))

pub returns-in_err-next : goal.returns-in_err-next
returns-in_err-next c =
    let p = err_from_is_err_and c.from_residual.result c.from_residual.ensures.1 in
    let s : starts (first (after_comma a_name)) c.turns.rest.now ≡ true = sym c.starts_with.ensures ∙ c.turns-test.true in
    rw (p.1, p.2) (turn_stops name_in name_list c.args.levels (after_comma a_name) c.in_err-next.field-0.0 c.turns.names.items c.turns.rest.now _ refl s c.in_err-next.ensures c.turns.invariant)

pub turns-smaller : goal.turns-smaller
turns-smaller c = let a = run_shorter c.args.levels (after_comma a_name) c.turns.rest.now c.in_ok-next.after.now (leaf c.in_ok-next.next) refl c.in_ok-next.ensures in omega (arith, a)

pub turns-preserved : goal.turns-preserved
turns-preserved c =
    let s : starts (first (after_comma a_name)) c.turns.rest.now ≡ true = sym c.starts_with.ensures ∙ c.turns-test.true in
    rw (c.in_ok-push.ensures.items, c.name_of.ensures) (turn_goes name_in name_list c.args.levels (after_comma a_name) c.turns.names.items (leaf c.in_ok-next.next) c.turns.rest.now c.in_ok-next.after.now _ refl s c.in_ok-next.ensures c.turns.invariant)

pub returns : goal.returns
returns c =
    let s : starts (first (after_comma a_name)) c.turns.rest.now ≡ false = sym c.starts_with.ensures ∙ c.turns-test.false in
    rw c.from_vec.ensures (turns_end name_in name_list c.args.levels (after_comma a_name) c.turns.names.items c.turns.rest.now _ s c.turns.invariant)
