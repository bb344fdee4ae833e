use Rattle.sx_rv_isa.proofs.Forth.{forth}
use Rattle.sx_rv_isa.proofs.decoding.reads_back.Goals as goal

pub returns : goal.returns
returns c = forth
