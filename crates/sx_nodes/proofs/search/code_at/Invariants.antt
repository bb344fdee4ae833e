use Rattle.std.proofs.Common.{Option}
use Rattle.sx_nodes.specs.declared.code.Code.{Code}
use Rattle.sx_nodes.specs.Stacks.{walked}
use Rattle.sx_nodes.specs.Walks.{Numbered, CodeAt}
use Rattle.sx_nodes.proofs.search.code_at.Given as goal

abbrev pub invariant-pieces : goal.invariant-pieces
invariant-pieces l = (c : Option Code) → Numbered (walked l.open.items) l.left c → CodeAt l.tree.items l.fn.node.0 c
