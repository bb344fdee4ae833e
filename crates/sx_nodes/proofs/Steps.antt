-- A walk goes on behind the nodes that a piece makes itself.
use Rattle.std.proofs.Common.{◌≡◌, ℕ, List, [], ◌∷◌, ◌++◌, map, length, Option, refl, sym, subst, ap, arith}
use Rattle.sx_nodes.specs.declared.code.Code.{Code}
use Rattle.sx_nodes.specs.declared.own.Own.TheVariants.{Is, Past}
use Rattle.std.proofs.lemmas.List.{reverse-append}
use Rattle.sx_nodes.specs.declared.pieces.Piece.{Piece as Held}
use Rattle.sx_nodes.specs.Own.{Stands}
use Rattle.sx_nodes.specs.Pieces.{Piece, own, inner}
use Rattle.sx_nodes.specs.Stacks.{piece, walked}
use Rattle.sx_nodes.specs.Walks.{Numbered, here, further}

pub walked_last : (hs : List Held) (h : Held) → walked (hs ++ h ∷ []) ≡ piece h ∷ walked hs
walked_last hs h = ap (map piece) (reverse-append hs (h ∷ []))

pub no_pieces : (hs : List Held) → length hs ≡ 0 → hs ≡ []
no_pieces [] e = refl
no_pieces (h ∷ hs) e = absurd (omega (arith, e))

pub is_here : (ws : List Piece) (p : Piece) (ps : List Piece) (n : ℕ) (c : Option Code) → ws ≡ p ∷ ps → Stands (own p) n (Is c) → Numbered ws n c
is_here ws p ps n c e h = subst (λ xs. Numbered xs n c) (sym e) (here h)

pub goes_further : (ws vs : List Piece) (p : Piece) (ps : List Piece) (n m : ℕ) (c : Option Code) →
    ws ≡ p ∷ ps → vs ≡ inner p ++ ps → Stands (own p) n (Past m) → Numbered vs m c → Numbered ws n c
goes_further ws vs p ps n m c e i h r = subst (λ xs. Numbered xs n c) (sym e) (further h (subst (λ xs. Numbered xs m c) i r))
