use Rattle.sx_texts.proofs.Least.{no_initialisers}
use Rattle.sx_texts.proofs.laws.texts_have_no_initialisers.Goals as goal

pub returns : goal.returns
returns c = no_initialisers
