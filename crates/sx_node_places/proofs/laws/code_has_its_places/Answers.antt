use Rattle.sx_node_places.proofs.Walks.{has_its_places}
use Rattle.sx_node_places.proofs.laws.code_has_its_places.Goals as goal

pub returns : goal.returns
returns c = has_its_places
