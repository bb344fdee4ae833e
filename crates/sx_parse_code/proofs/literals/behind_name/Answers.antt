use Rattle.std.proofs.Common.{◌≡◌, true, false, sym, ◌∙◌, ap}
use Rattle.std.proofs.lemmas.Result.{err_from_is_err_and}
use Rattle.sx_grammar.specs.Value.{pair, a_literal, a_statement}
use Rattle.sx_grammar.specs.Grammar.{starts, first, run, giving}
use Rattle.sx_grammar.specs.Rules.{body, named_literal, named_signature, names_behind, others}
use Rattle.sx_parse_code.specs.Productions.{with_names}
use Rattle.sx_parse_decl.proofs.Lists.{gives_at}
use Rattle.sx_parse_decl.proofs.Parts.{stops_at}
use Rattle.sx_parse_code.proofs.Behind.{giving_left, giving_right, names_same, others_same}
use Rattle.sx_parse_code.proofs.literals.behind_name.Goals as goal

pub returns-then-starts_with : goal.returns-then-starts_with
unfolding named_signature names_behind
returns-then-starts_with g c =
    let s : starts (first named_signature) c.args.lexemes.now ≡ true = sym c.starts_with.ensures ∙ c.if-starts_with.true in
    gives_at (λ x. a_literal x.0 x.1) (λ x. x.2.now) c.with_names.result _ _
    (giving_left c.args.levels (λ v. named_literal (pair (a_statement c.args.first) v)) named_signature others c.args.lexemes.now s
    ∙ names_same c.args.levels c.args.first c.args.lexemes.now
    ∙ ap (λ n. run body c.args.levels (giving (with_names n) named_signature) c.args.lexemes.now) (sym c.name_of_statement-name.ensures))
    c.with_names.ensures

pub returns-in_err-items : goal.returns-in_err-items
unfolding named_signature names_behind
returns-in_err-items g c =
    let p = err_from_is_err_and c.from_residual.result c.from_residual.ensures.1 in
    let s : starts (first named_signature) c.args.lexemes.now ≡ false = sym c.starts_with.ensures ∙ c.if-starts_with.false in
    rw (p.1, p.2) (stops_at c.in_err-items.field-0.0 _ _
    (giving_right c.args.levels (λ v. named_literal (pair (a_statement c.args.first) v)) named_signature others c.args.lexemes.now s ∙ others_same c.args.levels c.args.first c.args.lexemes.now)
    c.in_err-items.ensures)

pub returns : goal.returns
unfolding named_signature names_behind
returns g c =
    let s : starts (first named_signature) c.args.lexemes.now ≡ false = sym c.starts_with.ensures ∙ c.if-starts_with.false in
    giving_right c.args.levels (λ v. named_literal (pair (a_statement c.args.first) v)) named_signature others c.args.lexemes.now s ∙ others_same c.args.levels c.args.first c.args.lexemes.now ∙ c.in_ok-items.ensures
