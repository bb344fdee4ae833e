-- Where the code of a number stands in the list of places of its tree.
use Rattle.std.specs.Prelude.{◌≡◌, ℕ, List, ◌++◌, length, Some}
use Rattle.sx_tree.specs.declared.declarations.Item.{Item}
use Rattle.sx_tree.specs.declared.nodes.FaultOf.{FaultOf}
use Rattle.sx_tree.specs.Nodes.{Places, expr_places, block_places, statement_places, places_of_items}
use Rattle.sx_nodes.specs.declared.code.Code.{Code}
use Rattle.sx_nodes.specs.declared.code.Code.TheVariants as code
use Rattle.sx_nodes.specs.Walks.{CodeAt}

abbrev pub code_places : Code → Places
code_places (code.Expression e) = expr_places e
code_places (code.Block b) = block_places b
code_places (code.Statement s) = statement_places s

-- some places stand in a list one behind the other, the first of them under this number
abbrev pub StandFrom : ℕ → Places → Places → Type 0
StandFrom n some list = (before : Places) × (behind : Places) × (list ≡ before ++ (some ++ behind)) × (length before ≡ n)

-- in both lists of places of a tree
abbrev pub CodeHasItsPlaces : Type 0
CodeHasItsPlaces = (of : FaultOf) (is : List Item) (n : ℕ) (c : Code) → CodeAt is n (Some c) → StandFrom n (code_places c) (places_of_items of is)
