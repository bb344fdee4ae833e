use Rattle.std.proofs.Common.{◌≡◌, length}
use Rattle.sx_grammar.specs.Grammar.{run}
use Rattle.sx_grammar.specs.Value.{parameters}
use Rattle.sx_grammar.specs.Rules.{body, after_comma, subscript_parameter, parameter_in, subscript_parameter_list}
use Rattle.sx_parse_decl.proofs.Turns.{with_turns}
use Rattle.sx_parse_decl.proofs.parameter_lists.subscript_parameter_list.Given as goal

abbrev pub invariant-turns : goal.invariant-turns
invariant-turns l = with_turns parameter_in parameters l.levels (after_comma subscript_parameter) l.parameters.items l.rest ≡ run body l.levels subscript_parameter_list l.lexemes

abbrev pub decreases-turns : goal.decreases-turns
decreases-turns l = length l.rest
