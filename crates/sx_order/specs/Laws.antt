-- The law of order for written types.
use Rattle.std.specs.Prelude.{length}
use Rattle.sx_tree.specs.declared.written_types.WrittenType.{WrittenType}
use Rattle.sx_tree.specs.Nodes.{type_places}
use Rattle.sx_scope.specs.declared.declarations.Declarations.{Declarations}
use Rattle.sx_scope.specs.WrittenTypes.{judged_type}
use Rattle.sx_order.specs.Order.{Takes, Anywhere}

-- A written type takes as many nodes as it has places, and its failing nodes stand in the order of the nodes, as do the functions
-- found.
abbrev pub WrittenTypesTakeTheirPlaces : Type 0
WrittenTypesTakeTheirPlaces = (d : Declarations) (t : WrittenType) → Takes (length (type_places t)) Anywhere (judged_type d t)
