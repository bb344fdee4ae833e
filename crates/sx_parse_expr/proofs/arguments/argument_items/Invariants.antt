use Rattle.std.proofs.Common.{◌≡◌, length}
use Rattle.sx_grammar.specs.Grammar.{run}
use Rattle.sx_grammar.specs.Value.{arguments}
use Rattle.sx_grammar.specs.Rules.{after_comma, argument, argument_in, body}
use Rattle.sx_parse_decl.proofs.Turns.{with_turns}
use Rattle.sx_parse_expr.specs.Productions.{argument_items}
use Rattle.sx_parse_expr.proofs.arguments.argument_items.Given as goal

abbrev pub invariant-turns : goal.invariant-turns
invariant-turns g l = with_turns argument_in arguments l.levels (after_comma argument) l.arguments.items l.rest ≡ run body l.levels argument_items l.lexemes

abbrev pub decreases-turns : goal.decreases-turns
decreases-turns g l = length l.rest
