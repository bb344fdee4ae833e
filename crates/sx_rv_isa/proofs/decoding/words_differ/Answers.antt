use Rattle.sx_rv_isa.proofs.Forth.{injective}
use Rattle.sx_rv_isa.proofs.decoding.words_differ.Goals as goal

pub returns : goal.returns
returns c = injective
