use Rattle.std.proofs.Common.{◌≡◌, ◌++◌, drop}
use Rattle.sx_late.specs.Mentions.{block_mentions}
use Rattle.sx_late.proofs.bodies.+statements.Given as goal

abbrev pub invariant-put_block-loop-statement : goal.invariant-put_block-loop-statement
invariant-put_block-loop-statement l = l.mentions ++ block_mentions l.typed (drop l.statement-index l.block) ≡ l.fn.mentions ++ block_mentions l.typed l.block
