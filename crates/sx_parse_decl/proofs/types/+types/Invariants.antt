use Rattle.std.proofs.Common.{◌≡◌, ◌+◌, ◌*◌, length}
use Rattle.sx_grammar.specs.Grammar.{run}
use Rattle.sx_grammar.specs.Value.{type_parameters}
use Rattle.sx_grammar.specs.Rules.{body, after_comma, type_parameter, type_parameter_in, type_parameter_list}
use Rattle.sx_parse_decl.proofs.Turns.{with_turns}
use Rattle.sx_parse_decl.proofs.types.+types.Given as goal

abbrev pub decreases-written_type : goal.decreases-written_type
decreases-written_type l = l.levels * 8 + 1

abbrev pub decreases-arrow : goal.decreases-arrow
decreases-arrow l = l.levels * 8

abbrev pub decreases-type_parameter : goal.decreases-type_parameter
decreases-type_parameter l = l.levels * 8 + 2

abbrev pub decreases-next_type_parameter : goal.decreases-next_type_parameter
decreases-next_type_parameter l = l.levels * 8 + 3

abbrev pub decreases-type_parameters : goal.decreases-type_parameters
decreases-type_parameters l = l.levels * 8 + 4

abbrev pub decreases-type_bracket : goal.decreases-type_bracket
decreases-type_bracket l = l.levels * 8 + 5

abbrev pub invariant-type_parameters-turns : goal.invariant-type_parameters-turns
invariant-type_parameters-turns l = with_turns type_parameter_in type_parameters l.levels (after_comma type_parameter) l.parameters.items l.rest ≡ run body l.levels type_parameter_list l.lexemes

abbrev pub decreases-type_parameters-turns : goal.decreases-type_parameters-turns
decreases-type_parameters-turns l = length l.rest
