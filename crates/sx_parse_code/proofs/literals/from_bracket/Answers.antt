use Rattle.std.proofs.Common.{refl, ◌∙◌}
use Rattle.std.proofs.lemmas.Result.{err_from_is_err_and}
use Rattle.sx_grammar.specs.Value.{a_literal, a_signature, an_expr}
use Rattle.sx_grammar.specs.Rules.{bracket_literal, bracket_tail, first_part, from_bracket, is_signature, signature_tail}
use Rattle.sx_parse_decl.proofs.Lists.{gives_at}
use Rattle.sx_parse_decl.proofs.Parts.{stops_at}
use Rattle.sx_parse_code.proofs.Behind.{select_true, select_false, select_stops, tail_same, types_same}
use Rattle.sx_parse_code.proofs.literals.from_bracket.Goals as goal

pub returns-in_err-start : goal.returns-in_err-start
unfolding from_bracket
returns-in_err-start g c =
    let p = err_from_is_err_and c.from_residual.result c.from_residual.ensures.1 in
    rw (p.1, p.2) (select_stops c.args.levels c.in_err-start.field-0.0 bracket_literal first_part is_signature signature_tail bracket_tail c.args.lexemes.now c.in_err-start.ensures)

pub returns-in-Signature : goal.returns-in-Signature
unfolding from_bracket
returns-in-Signature g c =
    gives_at (λ x. a_literal x.0 x.1) (λ x. x.2.now) c.with_types.result _ _
    (select_true c.args.levels bracket_literal first_part is_signature signature_tail bracket_tail (a_signature c.in-Signature.parameters) c.args.lexemes.now c.in_ok-start.rest.now
    (rw c.in-Signature.is at c.in_ok-start.ensures) refl
    ∙ types_same c.args.levels c.in-Signature.parameters c.in_ok-start.rest.now)
    c.with_types.ensures

pub returns-in_err-items-in-Expr : goal.returns-in_err-items-in-Expr
unfolding from_bracket
returns-in_err-items-in-Expr g c =
    let p = err_from_is_err_and c.from_residual-in_err-items-in-Expr.result c.from_residual-in_err-items-in-Expr.ensures.1 in
    rw (p.1, p.2) (stops_at c.in_err-items-in-Expr.field-0.0 _ _
    (select_false c.args.levels bracket_literal first_part is_signature signature_tail bracket_tail (an_expr c.in-Expr.first) c.args.lexemes.now c.in_ok-start.rest.now
    (rw c.in-Expr.is at c.in_ok-start.ensures) refl
    ∙ tail_same c.args.levels c.in-Expr.first c.in_ok-start.rest.now)
    c.in_err-items-in-Expr.ensures)

pub returns-in_ok-items-in-Expr : goal.returns-in_ok-items-in-Expr
unfolding from_bracket
returns-in_ok-items-in-Expr g c =
    select_false c.args.levels bracket_literal first_part is_signature signature_tail bracket_tail (an_expr c.in-Expr.first) c.args.lexemes.now c.in_ok-start.rest.now
    (rw c.in-Expr.is at c.in_ok-start.ensures) refl
    ∙ tail_same c.args.levels c.in-Expr.first c.in_ok-start.rest.now ∙ c.in_ok-items-in-Expr.ensures
