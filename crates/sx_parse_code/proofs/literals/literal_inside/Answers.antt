use Rattle.std.proofs.Common.{sym, ◌∙◌}
use Rattle.std.proofs.lemmas.Result.{err_from_is_err_and}
use Rattle.sx_grammar.specs.Value.{a_literal}
use Rattle.sx_parse_decl.proofs.Lists.{gives_at}
use Rattle.sx_parse_decl.proofs.Parts.{stops_at}
use Rattle.sx_parse_code.proofs.Behind.{inside_statement, inside_bracket, inside_other, inside_nothing}
use Rattle.sx_parse_code.proofs.literals.literal_inside.Goals as goal

pub returns-in_err-items : goal.returns-in_err-items
returns-in_err-items g c =
    let p = err_from_is_err_and c.from_residual.result c.from_residual.ensures.1 in
    rw (p.1, p.2) (stops_at c.in_err-items.field-0.0 _ _ (inside_statement c.args.levels c.args.lexemes.now (sym c.starts_statement.ensures ∙ c.if-starts_statement.true)) c.in_err-items.ensures)

pub returns-then-starts_statement : goal.returns-then-starts_statement
returns-then-starts_statement g c = inside_statement c.args.levels c.args.lexemes.now (sym c.starts_statement.ensures ∙ c.if-starts_statement.true) ∙ c.in_ok-items.ensures

pub returns-then-starts_with : goal.returns-then-starts_with
returns-then-starts_with g c =
    gives_at (λ x. a_literal x.0 x.1) (λ x. x.2.now) c.from_bracket.result _ _
    (inside_bracket c.args.levels c.args.lexemes.now (sym c.starts_statement.ensures ∙ c.if-starts_statement.false) (sym c.starts_with.ensures ∙ c.if-starts_with.true))
    c.from_bracket.ensures

pub returns-then-starts_other : goal.returns-then-starts_other
returns-then-starts_other g c =
    gives_at (λ x. a_literal x.0 x.1) (λ x. x.2.now) c.from_other.result _ _
    (inside_other c.args.levels c.args.lexemes.now (sym c.starts_statement.ensures ∙ c.if-starts_statement.false) (sym c.starts_with.ensures ∙ c.if-starts_with.false) (sym c.starts_other.ensures ∙ c.if-starts_other.true))
    c.from_other.ensures

pub returns : goal.returns
returns g c = rw c.new.ensures (inside_nothing c.args.levels c.args.lexemes.now (sym c.starts_statement.ensures ∙ c.if-starts_statement.false) (sym c.starts_with.ensures ∙ c.if-starts_with.false) (sym c.starts_other.ensures ∙ c.if-starts_other.false))
