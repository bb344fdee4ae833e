use Rattle.std.proofs.Common.{◌≡◌, length}
use Rattle.sx_grammar.specs.Grammar.{run}
use Rattle.sx_grammar.specs.Value.{name_list}
use Rattle.sx_grammar.specs.Rules.{body, after_comma, a_name, name_in, names_behind}
use Rattle.sx_parse_decl.proofs.Turns.{with_turns}
use Rattle.sx_parse_code.proofs.signatures.names_behind.Given as goal

abbrev pub invariant-turns : goal.invariant-turns
invariant-turns l = with_turns name_in name_list l.levels (after_comma a_name) l.names.items l.rest ≡ run body l.levels names_behind l.lexemes

abbrev pub decreases-turns : goal.decreases-turns
decreases-turns l = length l.rest
