use Rattle.std.proofs.Common.{◌≡◌, length}
use Rattle.sx_grammar.specs.Grammar.{run}
use Rattle.sx_grammar.specs.Value.{part_list}
use Rattle.sx_grammar.specs.Rules.{body, part, part_in, parts_behind}
use Rattle.sx_parse_decl.proofs.Turns.{with_turns}
use Rattle.sx_parse_expr.proofs.operands.parts_behind.Given as goal

abbrev pub invariant-turns : goal.invariant-turns
invariant-turns g l = with_turns part_in part_list l.levels (part l.mode) l.parts.items l.rest ≡ run body l.levels (parts_behind l.mode) l.lexemes

abbrev pub decreases-turns : goal.decreases-turns
decreases-turns g l = length l.rest
