-- Which code has a number: the nodes are counted from 0 in the order of the text, outer before inner.
use Rattle.std.specs.Prelude.{◌≡◌, ℕ, ◌+◌, List, [], ◌∷◌, ◌++◌, map, length, slice_get, Option, Some, None}
use Rattle.sx_tree.specs.declared.declarations.Item.{Item}
use Rattle.sx_nodes.specs.declared.code.Code.{Code}
use Rattle.sx_nodes.specs.Pieces.{Piece, own, inner, item}

-- What a number stands for, counted from these pieces on: the nodes that a piece makes itself come first, then those of what stands
-- in it, and then those behind it. It is none where the node is no code, and where there are fewer nodes.
pub data Numbered : List Piece → ℕ → Option Code → Type 0 where
  here : {p : Piece} {ps : List Piece} {n : ℕ} {c : Option Code} → slice_get (own p) n ≡ Some c → Numbered (p ∷ ps) n c
  further : {p : Piece} {ps : List Piece} {n m : ℕ} {c : Option Code} → n ≡ length (own p) + m → Numbered (inner p ++ ps) m c → Numbered (p ∷ ps) n c
  beyond : {n : ℕ} → Numbered [] n None

-- what a number stands for in a program
abbrev pub CodeAt : List Item → ℕ → Option Code → Type 0
CodeAt is n c = Numbered (map item is) n c
