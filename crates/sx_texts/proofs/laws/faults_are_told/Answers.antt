use Rattle.sx_texts.proofs.Placed.{faults-told}
use Rattle.sx_texts.proofs.laws.faults_are_told.Goals as goal

pub returns : goal.returns
returns c = faults-told
