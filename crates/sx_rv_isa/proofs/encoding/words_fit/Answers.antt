use Rattle.sx_rv_isa.proofs.Forth.{fits}
use Rattle.sx_rv_isa.proofs.encoding.words_fit.Goals as goal

pub returns : goal.returns
returns c = fits
