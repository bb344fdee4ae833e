use Rattle.std.proofs.Common.{ℕ, List, ap, ◌∙◌}
use Rattle.sx_grammar.specs.Grammar.{starts}
use Rattle.sx_parse_items.proofs.Firsts.{first_program_item}
use Rattle.sx_parse_items.proofs.items.starts_item.Goals as goal

pub returns : goal.returns
returns c = c.starts_with.ensures ∙ ap (λ (cs : List ℕ). starts cs c.args.lexemes.now) first_program_item
