use Rattle.swiftx.proofs.CommandLines.{alone_some, alone_none}
use Rattle.swiftx.proofs.command.with_name.Goals as goal

pub returns-else-eq-clause-some : goal.returns-else-eq-clause-some
returns-else-eq-clause-some c = alone_some c.args.name.now c.args.file.now c.with_file.result c.with_file.ensures.some

pub returns-else-eq-clause-none : goal.returns-else-eq-clause-none
returns-else-eq-clause-none c = alone_none c.args.name.now c.args.file.now c.with_file.result c.if-eq.ensures c.with_file.ensures.none
