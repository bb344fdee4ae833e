use Rattle.sx_tree_places.proofs.Texts.{lie_in_the_text}
use Rattle.sx_tree_places.proofs.laws.places_lie_in_the_text.Goals as goal

pub returns : goal.returns
returns c = lie_in_the_text
