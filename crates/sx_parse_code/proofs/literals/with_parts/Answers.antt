use Rattle.std.proofs.Common.{[], ◌∷◌, sym, ap, ◌∙◌}
use Rattle.sx_tree.specs.declared.code.Expr.{Expr}
use Rattle.sx_tree.specs.declared.written_types.Signature.TheVariants as signatures
use Rattle.sx_grammar.specs.declared.lexemes.Mode.TheVariants as modes
use Rattle.sx_grammar.specs.declared.lexemes.Sort.TheVariants as sorts
use Rattle.sx_grammar.specs.Value.{pair, a_literal, part_list, link_list}
use Rattle.sx_grammar.specs.Grammar.{both, giving, run}
use Rattle.sx_grammar.specs.Rules.{body, bracket_tail, chained, links, parts_behind, unary}
use Rattle.sx_parse_code.specs.Productions.{behind_product, with_parts, with_terms}
use Rattle.sx_parse_decl.proofs.Lists.{gives_at}
use Rattle.sx_parse_code.proofs.Steps.{second_is}
use Rattle.sx_parse_code.proofs.literals.with_parts.Goals as goal

pub returns : goal.returns
unfolding bracket_tail
returns g c =
    gives_at (λ x. a_literal signatures.Absent x.0) (λ x. x.1.now) c.with_terms.result _ _
    (second_is c.args.levels (with_parts c.args.first) (parts_behind modes.Free) (both (links (sorts.Times ∷ []) (unary modes.Free)) behind_product) (part_list c.in_ok-parts.parts) c.args.lexemes.now c.in_ok-parts.rest.now c.in_ok-parts.ensures
    ∙ second_is c.args.levels (λ w. with_parts c.args.first (pair (part_list c.in_ok-parts.parts) w)) (links (sorts.Times ∷ []) (unary modes.Free)) behind_product (link_list c.in_ok-factors.factors) c.in_ok-parts.rest.now c.in_ok-factors.rest.now c.in_ok-factors.ensures
    ∙ ap (λ (e : Expr). run body c.args.levels (giving (with_terms e) behind_product) c.in_ok-factors.rest.now) (sym (c.in_ok-product.ensures ∙ ap (λ (e : Expr). chained e c.in_ok-factors.factors) c.in_ok-operand.ensures)))
    c.with_terms.ensures
