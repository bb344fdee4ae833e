-- Pieces with their places, one behind the other.
use Rattle.std.proofs.Common.{◌≡◌, ℕ, zero, suc, List, [], ◌∷◌, ◌++◌, map, length, slice_get, Option, Some, None, refl, sym, ap, subst, ◌∙◌, append_assoc, append-nil}
use Rattle.std.proofs.lemmas.Option.{none-some, same_Some}
use Rattle.sx_tree.specs.declared.nodes.FaultOf.{FaultOf}
use Rattle.sx_tree.specs.Nodes.{Places, all, option_places, trailing, accessor_places, argument_places, block_places, closure_parameter_places, closure_places, expr_places, function_places, initialiser_places, name_places, parameter_places, statement_places, subscript_places, type_declaration_places, type_places, variable_places}
use Rattle.sx_nodes.specs.declared.code.Code.{Code}
use Rattle.sx_nodes.specs.Pieces.{Piece, optional}
use Rattle.sx_node_places.specs.Places.{code_places, StandFrom}
use Rattle.sx_node_places.proofs.Lists.{whole}

module _ (of : FaultOf) where
  -- an accessor's own place is that of the declaration around it
  abbrev pub PiecePlaces : Piece → Places → Type 0
  PiecePlaces (Piece.function f) xs = xs ≡ function_places f
  PiecePlaces (Piece.declaration t) xs = xs ≡ type_declaration_places of t
  PiecePlaces (Piece.variable v) xs = xs ≡ variable_places of v
  PiecePlaces (Piece.subscript s) xs = xs ≡ subscript_places of s
  PiecePlaces (Piece.initialiser i) xs = xs ≡ initialiser_places i
  PiecePlaces (Piece.accessor a) xs = (place : ℕ) × (xs ≡ accessor_places of place a)
  PiecePlaces (Piece.parameter p) xs = xs ≡ parameter_places p
  PiecePlaces (Piece.written t) xs = xs ≡ type_places t
  PiecePlaces (Piece.name n) xs = xs ≡ name_places n
  PiecePlaces (Piece.closure_parameter p) xs = xs ≡ closure_parameter_places p
  PiecePlaces (Piece.statement s) xs = xs ≡ statement_places s
  PiecePlaces (Piece.block b) xs = xs ≡ block_places b
  PiecePlaces (Piece.expression e) xs = xs ≡ expr_places e
  PiecePlaces (Piece.argument a) xs = xs ≡ argument_places a
  PiecePlaces (Piece.trailing c) xs = xs ≡ trailing (Some (closure_places c))
  PiecePlaces (Piece.closure c) xs = xs ≡ closure_places c

  abbrev pub Placed : List Piece → Places → Type 0
  Placed [] xs = xs ≡ []
  Placed (p ∷ ps) xs = (one : Places) × (rest : Places) × (xs ≡ one ++ rest) × PiecePlaces p one × Placed ps rest

  pub placed_append : (ps qs : List Piece) (xs ys : Places) → Placed ps xs → Placed qs ys → Placed (ps ++ qs) (xs ++ ys)
  placed_append [] qs xs ys e k = subst (λ zs. Placed qs (zs ++ ys)) (sym e) k
  placed_append (p ∷ ps) qs xs ys (one, rest, e, h, r) k =
      (one, rest ++ ys, ap (λ zs. zs ++ ys) e ∙ append_assoc one rest ys, h, placed_append ps qs rest ys r k)

  pub placed_first : (p : Piece) (ps : List Piece) (one rest : Places) → PiecePlaces p one → Placed ps rest → Placed (p ∷ ps) (one ++ rest)
  placed_first p ps one rest h r = (one, rest, refl, h, r)

  pub placed_one : (p : Piece) (one : Places) → PiecePlaces p one → Placed (p ∷ []) one
  placed_one p one h = (one, [], sym (append-nil one), h, refl)

  pub placed_map : {X : Type 0} (f : X → Piece) (g : X → Places) → ((x : X) → PiecePlaces (f x) (g x)) → (xs : List X) → Placed (map f xs) (all (map g xs))
  placed_map f g h [] = refl
  placed_map f g h (x ∷ xs) = placed_first (f x) (map f xs) (g x) (all (map g xs)) (h x) (placed_map f g h xs)

  pub placed_optional : {X : Type 0} (f : X → Piece) (g : X → Places) → ((x : X) → PiecePlaces (f x) (g x)) → (o : Option X) → Placed (optional f o) (option_places g o)
  placed_optional f g h None = refl
  placed_optional f g h (Some x) = placed_one (f x) (g x) (h x)

  -- The places of a piece: those of the nodes that it makes itself, and then those of what stands in it. Code that it makes itself has its
  -- places from its number on.
  abbrev pub Splits : List (Option Code) → List Piece → Places → Type 0
  Splits cs ps xs = (own : Places) × (rest : Places) × (xs ≡ own ++ rest) × (length own ≡ length cs) × Placed ps rest
      × ((n : ℕ) (c : Code) → slice_get cs n ≡ Some (Some c) → StandFrom n (code_places c) xs)

  abbrev pub nothing : List (Option Code)
  nothing = None ∷ []

  -- a node that is no code
  pub no_code : (start : ℕ) (ps : List Piece) (rest : Places) → Placed ps rest → Splits (None ∷ []) ps (start ∷ rest)
  no_code start ps rest h = (start ∷ [], rest, refl, refl, h, λ n c. none n c) where
    none : (n : ℕ) (c : Code) → slice_get nothing n ≡ Some (Some c) → StandFrom n (code_places c) (start ∷ rest)
    none zero c e = absurd (none-some c (same_Some None (Some c) e))
    none (suc n) c e = absurd (none-some (Some c) e)

  -- a node that is the code as a whole
  pub one_code : (c : Code) (start : ℕ) (ps : List Piece) (rest : Places) → start ∷ rest ≡ code_places c → Placed ps rest → Splits (Some c ∷ []) ps (start ∷ rest)
  one_code c start ps rest i h = (start ∷ [], rest, refl, refl, h, λ n d. first n d) where
    first : (n : ℕ) (d : Code) → slice_get (Some c ∷ []) n ≡ Some (Some d) → StandFrom n (code_places d) (start ∷ rest)
    first zero d e = subst (λ x. StandFrom 0 (code_places x) (start ∷ rest)) (same_Some c d (same_Some (Some c) (Some d) e)) (whole (code_places c) (start ∷ rest) i)
    first (suc n) d e = absurd (none-some (Some d) e)
