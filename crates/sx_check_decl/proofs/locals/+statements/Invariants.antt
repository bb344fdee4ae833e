use Rattle.std.proofs.Common.{◌≡◌, ◌++◌, drop}
use Rattle.sx_check_decl.specs.Locals.{block_variables}
use Rattle.sx_check_decl.proofs.locals.+statements.Given as goal

abbrev pub invariant-put_block-loop-statement : goal.invariant-put_block-loop-statement
invariant-put_block-loop-statement l = l.variables.items ++ block_variables (drop l.statement-index l.block) ≡ l.fn.variables.items ++ block_variables l.block
