use Rattle.std.proofs.Common.{sym, ◌∙◌}
use Rattle.std.proofs.lemmas.Result.{err_from_is_err_and}
use Rattle.sx_grammar.specs.Value.{a_literal, a_statement}
use Rattle.sx_grammar.specs.Grammar.{begin, either}
use Rattle.sx_grammar.specs.Rules.{named_literal, expr_statement, from_other, is_name_statement, named_signature, others}
use Rattle.sx_parse_decl.proofs.Lists.{gives_at}
use Rattle.sx_parse_decl.proofs.Parts.{stops_at}
use Rattle.sx_parse_code.proofs.Behind.{select_true, select_false, select_stops, other_starts, other_begins, others_same}
use Rattle.sx_parse_code.proofs.literals.from_other.Goals as goal

pub returns-in_err-first : goal.returns-in_err-first
unfolding from_other
returns-in_err-first g c =
    let p = err_from_is_err_and c.from_residual.result c.from_residual.ensures.1 in
    rw (p.1, p.2) (select_stops c.args.levels c.in_err-first.field-0.0 named_literal (begin (other_starts c.args.levels) expr_statement) is_name_statement (either named_signature others) others c.args.lexemes.now
    (stops_at c.in_err-first.field-0.0 _ _ (other_begins c.args.levels c.args.lexemes.now c.requires.begins) c.in_err-first.ensures))

pub returns-then-is_name_statement : goal.returns-then-is_name_statement
unfolding from_other
returns-then-is_name_statement g c =
    gives_at (λ x. a_literal x.0 x.1) (λ x. x.2.now) c.behind_name.result _ _
    (select_true c.args.levels named_literal (begin (other_starts c.args.levels) expr_statement) is_name_statement (either named_signature others) others (a_statement c.in_ok-first.first) c.args.lexemes.now c.in_ok-first.rest.now
    (other_begins c.args.levels c.args.lexemes.now c.requires.begins ∙ c.in_ok-first.ensures) (sym c.is_name_statement.ensures ∙ c.if-is_name_statement.true))
    c.behind_name.ensures

pub returns-in_err-items : goal.returns-in_err-items
unfolding from_other
returns-in_err-items g c =
    let p = err_from_is_err_and c.from_residual-in_err-items.result c.from_residual-in_err-items.ensures.1 in
    rw (p.1, p.2) (stops_at c.in_err-items.field-0.0 _ _
    (select_false c.args.levels named_literal (begin (other_starts c.args.levels) expr_statement) is_name_statement (either named_signature others) others (a_statement c.in_ok-first.first) c.args.lexemes.now c.in_ok-first.rest.now
    (other_begins c.args.levels c.args.lexemes.now c.requires.begins ∙ c.in_ok-first.ensures) (sym c.is_name_statement.ensures ∙ c.if-is_name_statement.false)
    ∙ others_same c.args.levels c.in_ok-first.first c.in_ok-first.rest.now)
    c.in_err-items.ensures)

pub returns : goal.returns
unfolding from_other
returns g c =
    select_false c.args.levels named_literal (begin (other_starts c.args.levels) expr_statement) is_name_statement (either named_signature others) others (a_statement c.in_ok-first.first) c.args.lexemes.now c.in_ok-first.rest.now
    (other_begins c.args.levels c.args.lexemes.now c.requires.begins ∙ c.in_ok-first.ensures) (sym c.is_name_statement.ensures ∙ c.if-is_name_statement.false)
    ∙ others_same c.args.levels c.in_ok-first.first c.in_ok-first.rest.now ∙ c.in_ok-items.ensures
