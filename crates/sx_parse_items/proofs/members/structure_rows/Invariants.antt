use Rattle.std.proofs.Common.{◌≡◌, length}
use Rattle.sx_grammar.specs.Grammar.{run}
use Rattle.sx_grammar.specs.Value.{members}
use Rattle.sx_grammar.specs.Rules.{body, member_in, row_item}
use Rattle.sx_parse_decl.proofs.Turns.{with_turns}
use Rattle.sx_parse_items.specs.Parts.{member_rows, structure_member}
use Rattle.sx_parse_items.proofs.members.structure_rows.Given as goal

abbrev pub invariant-turns : goal.invariant-turns
invariant-turns l = with_turns member_in members l.levels (row_item structure_member) l.members l.rest ≡ run body l.levels (member_rows structure_member) l.lexemes

abbrev pub decreases-turns : goal.decreases-turns
decreases-turns l = length l.rest
