use Rattle.sx_order.proofs.WrittenTypes.{judged_type-takes}
use Rattle.sx_order.proofs.laws.written_types_take_their_places.Goals as goal

pub returns : goal.returns
returns c = judged_type-takes
