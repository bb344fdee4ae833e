use Rattle.std.proofs.Common.{ap, ◌∙◌}
use Rattle.sx_rv_isa.specs.Words.{decoded}
use Rattle.sx_rv_isa.proofs.Forth.{forth}
use Rattle.sx_rv_isa.proofs.encoding.encode.Goals as goal

pub returns-clause-reads_back : goal.returns-clause-reads_back
returns-clause-reads_back c = ap decoded c.encode_by_table.ensures ∙ forth c.args.instr.now
