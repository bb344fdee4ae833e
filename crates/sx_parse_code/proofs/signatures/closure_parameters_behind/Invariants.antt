use Rattle.std.proofs.Common.{◌≡◌, length}
use Rattle.sx_grammar.specs.Grammar.{run}
use Rattle.sx_grammar.specs.Value.{closure_parameters}
use Rattle.sx_grammar.specs.Rules.{body, after_comma, closure_parameter, closure_parameter_in, closure_parameters_behind}
use Rattle.sx_parse_decl.proofs.Turns.{with_turns}
use Rattle.sx_parse_code.proofs.signatures.closure_parameters_behind.Given as goal

abbrev pub invariant-turns : goal.invariant-turns
invariant-turns l = with_turns closure_parameter_in closure_parameters l.levels (after_comma closure_parameter) l.parameters.items l.rest ≡ run body l.levels closure_parameters_behind l.lexemes

abbrev pub decreases-turns : goal.decreases-turns
decreases-turns l = length l.rest
