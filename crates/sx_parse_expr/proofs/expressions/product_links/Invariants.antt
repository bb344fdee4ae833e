use Rattle.std.proofs.Common.{◌≡◌, [], ◌∷◌, length}
use Rattle.sx_grammar.specs.Grammar.{run}
use Rattle.sx_grammar.specs.Rules.{body, links, unary}
use Rattle.sx_grammar.specs.declared.lexemes.Sort.TheVariants as sorts
use Rattle.sx_parse_expr.proofs.Rows.{with_links}
use Rattle.sx_parse_expr.proofs.expressions.product_links.Given as goal

abbrev pub invariant-turns : goal.invariant-turns
invariant-turns g l = with_links l.levels (sorts.Times ∷ []) (unary l.mode) l.links.items l.rest ≡ run body l.levels (links (sorts.Times ∷ []) (unary l.mode)) l.lexemes

abbrev pub decreases-turns : goal.decreases-turns
decreases-turns g l = length l.rest
