use Rattle.std.proofs.Common.{◌≡◌, length}
use Rattle.sx_grammar.specs.Grammar.{run}
use Rattle.sx_grammar.specs.Value.{exprs}
use Rattle.sx_grammar.specs.Rules.{after_comma, body, expr, expr_in}
use Rattle.sx_grammar.specs.declared.lexemes.Mode.TheVariants as modes
use Rattle.sx_parse_decl.proofs.Turns.{with_turns}
use Rattle.sx_parse_expr.specs.Productions.{index_items}
use Rattle.sx_parse_expr.proofs.arguments.index_items.Given as goal

abbrev pub invariant-turns : goal.invariant-turns
invariant-turns g l = with_turns expr_in exprs l.levels (after_comma (expr modes.Free)) l.indices.items l.rest ≡ run body l.levels index_items l.lexemes

abbrev pub decreases-turns : goal.decreases-turns
decreases-turns g l = length l.rest
