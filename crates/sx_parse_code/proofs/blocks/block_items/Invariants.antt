use Rattle.std.proofs.Common.{◌≡◌, length}
use Rattle.sx_grammar.specs.Grammar.{run}
use Rattle.sx_grammar.specs.Value.{statements}
use Rattle.sx_grammar.specs.Rules.{body, block_item, block_items, row_item, statement_in}
use Rattle.sx_parse_decl.proofs.Turns.{with_turns}
use Rattle.sx_parse_code.proofs.blocks.block_items.Given as goal

abbrev pub invariant-turns : goal.invariant-turns
invariant-turns g l = with_turns statement_in statements l.levels (row_item block_item) l.items.items l.rest ≡ run body l.levels block_items l.lexemes

abbrev pub decreases-turns : goal.decreases-turns
decreases-turns g l = length l.rest
