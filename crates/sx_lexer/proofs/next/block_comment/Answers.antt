use Rattle.std.proofs.Common.{arith, ◌∙◌, ap}
use Rattle.sx_lexer.specs.Lexis.{after}
use Rattle.sx_lexer.proofs.Enclosed.{block_space, block_fault}
use Rattle.sx_lexer.proofs.next.block_comment.Goals as goal

pub returns-in-Some : goal.returns-in-Some
returns-in-Some c = (
  block_space c.args.start.rest.now c.second.result.rest.now c.in-Some.end.rest.now c.in-Some.line c.requires.begins (c.second.ensures.next ∙ ap after c.requires.follows.next) c.in-Some.ensures.value,
  omega (arith, c.in-Some.ensures.shorter, c.second.ensures.shorter, c.requires.follows.shorter),
)

pub returns-in-None : goal.returns-in-None
returns-in-None c = (
  block_fault c.args.start.rest.now c.second.result.rest.now c.requires.begins (c.second.ensures.next ∙ ap after c.requires.follows.next) c.in-None.ensures.value,
  omega arith,
)
