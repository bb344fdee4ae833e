-- The code of a number has its places from that number on.
use Rattle.std.proofs.Common.{◌≡◌, ℕ, List, [], ◌∷◌, ◌++◌, map, Some, subst, sym, ap, ◌∙◌, append_assoc, arith}
use Rattle.sx_tree.specs.declared.nodes.FaultOf.{FaultOf}
use Rattle.sx_tree.specs.declared.declarations.Item.{Item}
use Rattle.sx_tree.specs.Nodes.{Places, places_of_items}
use Rattle.sx_nodes.specs.declared.code.Code.{Code}
use Rattle.sx_nodes.specs.Pieces.{Piece, inner, item}
use Rattle.sx_nodes.specs.Walks.{CodeAt, Numbered, here, further}
use Rattle.sx_node_places.specs.Places.{code_places, StandFrom}
use Rattle.sx_node_places.proofs.Lists.{stands_first, stands_past}
use Rattle.sx_node_places.proofs.Placed.{Placed, placed_append}
use Rattle.sx_node_places.proofs.Steps.{items_placed, splits}

module _ (of : FaultOf) where
  stands : (ps : List Piece) (n : ℕ) (c : Code) (xs : Places) → Numbered ps n (Some c) → Placed of ps xs → StandFrom n (code_places c) xs
  stands [] n c xs h places = elim h [ ]
  stands (p ∷ ps) n c xs (here h) (one, rest, e, places, others) =
      let (first, behind, split, count, inside, codes) = splits of p one places in
      subst (λ ys. StandFrom n (code_places c) ys) (sym e) (stands_first n (code_places c) one rest (codes n c h))
  stands (p ∷ ps) n c xs (further {m = m} i r) (one, rest, e, places, others) =
      let (first, behind, split, count, inside, codes) = splits of p one places in
      let all_of : xs ≡ first ++ (behind ++ rest) = e ∙ ap (λ ys. ys ++ rest) split ∙ append_assoc first behind rest in
      subst (λ ys. StandFrom n (code_places c) ys) (sym all_of)
      (stands_past n m (code_places c) first (behind ++ rest) (omega (arith, i, count)) (stands (inner p ++ ps) m c (behind ++ rest) r (placed_append of (inner p) ps behind rest inside others)))

pub has_its_places : (of : FaultOf) (is : List Item) (n : ℕ) (c : Code) → CodeAt is n (Some c) → StandFrom n (code_places c) (places_of_items of is)
has_its_places of is n c h = stands of (map item is) n c (places_of_items of is) h (items_placed of is)
