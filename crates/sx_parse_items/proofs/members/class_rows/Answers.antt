use Rattle.std.proofs.Common.{◌≡◌, true, false, refl, arith, sym, ◌∙◌}
use Rattle.std.proofs.lemmas.Result.{err_from_is_err_and}
use Rattle.sx_grammar.specs.Value.{a_member, members}
use Rattle.sx_grammar.specs.Grammar.{starts, first}
use Rattle.sx_grammar.specs.Rules.{property, variable_head, method, function_head, subscript_member, subscript_head, member_in, row_item}
use Rattle.sx_parse_decl.proofs.Parts.{run_shorter}
use Rattle.sx_parse_decl.proofs.Turns.{turn_goes, turns_end, turn_stops}
use Rattle.sx_parse_items.specs.Parts.{class_member}
use Rattle.sx_parse_items.proofs.Rows.{rows_begin}
use Rattle.sx_parse_items.proofs.members.class_rows.Goals as goal

pub turns-init : goal.turns-init
turns-init c = rw c.new-members.ensures (rows_begin member_in members c.args.levels (row_item class_member) c.args.lexemes.now)

pub returns-in_err-member : goal.returns-in_err-member
unfolding property variable_head method function_head subscript_member subscript_head
returns-in_err-member c =
    let p = err_from_is_err_and c.from_residual.result c.from_residual.ensures.1 in
    let s : starts (first (row_item class_member)) c.turns.rest.now ≡ true = sym c.starts_with.ensures ∙ c.turns-test.true in
    rw (p.1, p.2) (turn_stops member_in members c.args.levels (row_item class_member) c.in_err-member.field-0.0 c.turns.members c.turns.rest.now _ refl s c.in_err-member.ensures c.turns.invariant)

pub turns-smaller : goal.turns-smaller
unfolding property variable_head method function_head subscript_member subscript_head
turns-smaller c = let a = run_shorter c.args.levels (row_item class_member) c.turns.rest.now c.in_ok-member.after.now (a_member c.in_ok-member.member) refl c.in_ok-member.ensures in omega (arith, a)

pub turns-preserved : goal.turns-preserved
unfolding property variable_head method function_head subscript_member subscript_head
turns-preserved c =
    let s : starts (first (row_item class_member)) c.turns.rest.now ≡ true = sym c.starts_with.ensures ∙ c.turns-test.true in
    rw c.in_ok-push.ensures.ok (turn_goes member_in members c.args.levels (row_item class_member) c.turns.members (a_member c.in_ok-member.member) c.turns.rest.now c.in_ok-member.after.now _ refl s c.in_ok-member.ensures c.turns.invariant)

pub returns : goal.returns
unfolding property variable_head method function_head subscript_member subscript_head
returns c =
    let s : starts (first (row_item class_member)) c.turns.rest.now ≡ false = sym c.starts_with.ensures ∙ c.turns-test.false in
    turns_end member_in members c.args.levels (row_item class_member) c.turns.members c.turns.rest.now _ s c.turns.invariant
