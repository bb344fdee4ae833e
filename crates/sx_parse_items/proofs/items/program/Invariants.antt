use Rattle.std.proofs.Common.{◌≡◌, length}
use Rattle.sx_grammar.specs.Grammar.{run}
use Rattle.sx_grammar.specs.Value.{items}
use Rattle.sx_grammar.specs.Rules.{body, item_in, program}
use Rattle.sx_parse_decl.proofs.Turns.{with_turns}
use Rattle.sx_parse_items.specs.Parts.{program_item}
use Rattle.sx_parse_items.proofs.items.program.Given as goal

abbrev pub invariant-turns : goal.invariant-turns
invariant-turns l = with_turns item_in items l.levels program_item l.items l.rest ≡ run body l.levels program l.lexemes

abbrev pub decreases-turns : goal.decreases-turns
decreases-turns l = length l.rest
