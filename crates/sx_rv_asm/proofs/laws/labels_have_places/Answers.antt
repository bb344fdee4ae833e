use Rattle.sx_rv_asm.proofs.Standing.{places}
use Rattle.sx_rv_asm.proofs.laws.labels_have_places.Goals as goal

pub returns : goal.returns
returns c = places
