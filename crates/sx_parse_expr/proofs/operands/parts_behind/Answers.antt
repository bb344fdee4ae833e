use Rattle.std.proofs.Common.{◌≡◌, true, false, refl, arith, sym, ◌∙◌}
use Rattle.std.proofs.lemmas.Result.{err_from_is_err_and}
use Rattle.sx_grammar.specs.Value.{a_part, part_list}
use Rattle.sx_grammar.specs.Grammar.{starts, first}
use Rattle.sx_grammar.specs.Rules.{part, part_in, parts_behind}
use Rattle.sx_parse_decl.proofs.Parts.{run_shorter}
use Rattle.sx_parse_decl.proofs.Turns.{turn_goes, turns_end, turn_stops}
use Rattle.sx_parse_expr.proofs.Rows.{row_begins}
use Rattle.sx_parse_expr.proofs.operands.parts_behind.Goals as goal

pub turns-init : goal.turns-init
unfolding parts_behind
turns-init g c = rw c.new-parts.ensures.items (row_begins part_in part_list c.args.levels (part c.args.mode) c.args.lexemes.now)

pub returns-in_err-part : goal.returns-in_err-part
unfolding part
returns-in_err-part g c =
    let p = err_from_is_err_and c.from_residual.result c.from_residual.ensures.1 in
    let s : starts (first (part c.args.mode)) c.turns.rest.now ≡ true = sym c.starts_part.ensures ∙ c.turns-test.true in
    rw (p.1, p.2) (turn_stops part_in part_list c.args.levels (part c.args.mode) c.in_err-part.field-0.0 c.turns.parts.items c.turns.rest.now _ refl s c.in_err-part.ensures c.turns.invariant)

pub turns-smaller : goal.turns-smaller
unfolding part
turns-smaller g c = let a = run_shorter c.args.levels (part c.args.mode) c.turns.rest.now c.in_ok-part.after.now (a_part c.in_ok-part.part) refl c.in_ok-part.ensures in omega (arith, a)

pub turns-preserved : goal.turns-preserved
unfolding part
turns-preserved g c =
    let s : starts (first (part c.args.mode)) c.turns.rest.now ≡ true = sym c.starts_part.ensures ∙ c.turns-test.true in
    rw c.in_ok-push.ensures.items (turn_goes part_in part_list c.args.levels (part c.args.mode) c.turns.parts.items (a_part c.in_ok-part.part) c.turns.rest.now c.in_ok-part.after.now _ refl s c.in_ok-part.ensures c.turns.invariant)

pub returns : goal.returns
unfolding part
returns g c =
    let s : starts (first (part c.args.mode)) c.turns.rest.now ≡ false = sym c.starts_part.ensures ∙ c.turns-test.false in
    rw c.from_vec.ensures (turns_end part_in part_list c.args.levels (part c.args.mode) c.turns.parts.items c.turns.rest.now _ s c.turns.invariant)
