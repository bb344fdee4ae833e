use Rattle.sx_parser.proofs.Verdicts.{is_tree}
use Rattle.sx_parser.proofs.parsing.parse.Goals as goal

pub returns-in-Ok-tree_of : goal.returns-in-Ok-tree_of
returns-in-Ok-tree_of c = is_tree c.args.tokens.now c.in-Ok.items c.in-Ok-tree_of.tree c.in-Ok.ensures c.in-Ok-tree_of.ensures.0 c.in-Ok-tree_of.ensures.1
