use Rattle.std.proofs.Common.{map}
use Rattle.sx_nodes.specs.Pieces.{item}
use Rattle.sx_nodes.proofs.OneCode.{one_code}
use Rattle.sx_nodes.proofs.laws.one_code_a_node.Goals as goal

pub returns : goal.returns
returns c is n x y h k = one_code (map item is) n x y h k
