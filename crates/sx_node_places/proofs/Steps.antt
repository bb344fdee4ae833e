-- Each piece has the places of the nodes that it makes itself first, and then those of what stands in it.
use Rattle.std.proofs.Common.{◌≡◌, ℕ, List, [], ◌∷◌, ◌++◌, map, refl, sym, subst}
use Rattle.sx_tree.specs.declared.nodes.FaultOf.{FaultOf}
use Rattle.sx_tree.specs.declared.declarations.Accessor.{Accessor}
use Rattle.sx_tree.specs.declared.declarations.Function.{Function}
use Rattle.sx_tree.specs.declared.declarations.Initialiser.{Initialiser}
use Rattle.sx_tree.specs.declared.declarations.Item.{Item}
use Rattle.sx_tree.specs.declared.declarations.Item.TheVariants as items
use Rattle.sx_tree.specs.declared.declarations.Member.{Member}
use Rattle.sx_tree.specs.declared.declarations.Member.TheVariants as members
use Rattle.sx_tree.specs.declared.declarations.Parameter.{Parameter}
use Rattle.sx_tree.specs.declared.declarations.Subscript.{Subscript}
use Rattle.sx_tree.specs.declared.declarations.TypeDeclaration.{TypeDeclaration}
use Rattle.sx_tree.specs.declared.declarations.Variable.{Variable}
use Rattle.sx_tree.specs.Nodes.{Places, accessor_place, accessor_places, all, block_places, expr_places, function_places, initialiser_places, item_places, member_places, option_places, parameter_places, places_of_items, subscript_places, type_declaration_places, type_places, variable_places}
use Rattle.sx_nodes.specs.Pieces.{Piece, inner, item, member, optional, own}
use Rattle.sx_node_places.proofs.Placed.{PiecePlaces, Placed, Splits, no_code, placed_append, placed_first, placed_map, placed_one, placed_optional}
use Rattle.sx_node_places.proofs.Signatures.{type_splits}
use Rattle.sx_node_places.proofs.Forms.{argument_splits, block_splits, closure_splits, expression_splits, statement_splits, trailing_splits}

module _ (of : FaultOf) where
  parameters_placed : (ps : List Parameter) → Placed of (map Piece.parameter ps) (all (map parameter_places ps))
  parameters_placed ps = placed_map of Piece.parameter parameter_places (λ p. refl) ps

  accessors_placed : (place : ℕ) (as_ : List Accessor) → Placed of (map Piece.accessor as_) (all (map (accessor_places of place) as_))
  accessors_placed place as_ = placed_map of Piece.accessor (accessor_places of place) (λ a. (place, refl)) as_

  function_splits : (f : Function) → Splits of (own (Piece.function f)) (inner (Piece.function f)) (function_places f)
  function_splits f =
      let result : List Piece = optional Piece.written f.result ++ Piece.block f.body ∷ [] in
      no_code of f.name.span.start (map Piece.parameter f.parameters ++ result) (all (map parameter_places f.parameters) ++ (option_places type_places f.result ++ block_places f.body))
      (placed_append of (map Piece.parameter f.parameters) result (all (map parameter_places f.parameters)) (option_places type_places f.result ++ block_places f.body) (parameters_placed f.parameters)
      (placed_append of (optional Piece.written f.result) (Piece.block f.body ∷ []) (option_places type_places f.result) (block_places f.body)
      (placed_optional of Piece.written type_places (λ t. refl) f.result) (placed_one of (Piece.block f.body) (block_places f.body) refl)))

  initialiser_splits : (i : Initialiser) → Splits of (own (Piece.initialiser i)) (inner (Piece.initialiser i)) (initialiser_places i)
  initialiser_splits i =
      no_code of i.span.start (map Piece.parameter i.parameters ++ Piece.block i.body ∷ []) (all (map parameter_places i.parameters) ++ block_places i.body)
      (placed_append of (map Piece.parameter i.parameters) (Piece.block i.body ∷ []) (all (map parameter_places i.parameters)) (block_places i.body) (parameters_placed i.parameters) (placed_one of (Piece.block i.body) (block_places i.body) refl))

  variable_splits : (v : Variable) → Splits of (own (Piece.variable v)) (inner (Piece.variable v)) (variable_places of v)
  variable_splits v =
      let accessors : Places = all (map (accessor_places of v.name.span.start) v.accessors) in
      let valued : List Piece = optional Piece.expression v.value ++ map Piece.accessor v.accessors in
      no_code of v.name.span.start (optional Piece.written v.ty ++ valued) (option_places type_places v.ty ++ (option_places expr_places v.value ++ accessors))
      (placed_append of (optional Piece.written v.ty) valued (option_places type_places v.ty) (option_places expr_places v.value ++ accessors) (placed_optional of Piece.written type_places (λ t. refl) v.ty)
      (placed_append of (optional Piece.expression v.value) (map Piece.accessor v.accessors) (option_places expr_places v.value) accessors
      (placed_optional of Piece.expression expr_places (λ e. refl) v.value) (accessors_placed v.name.span.start v.accessors)))

  subscript_splits : (s : Subscript) → Splits of (own (Piece.subscript s)) (inner (Piece.subscript s)) (subscript_places of s)
  subscript_splits s =
      let accessors : Places = all (map (accessor_places of s.span.start) s.accessors) in
      let behind : List Piece = Piece.written s.result ∷ map Piece.accessor s.accessors in
      no_code of s.span.start (map Piece.parameter s.parameters ++ behind) (all (map parameter_places s.parameters) ++ (type_places s.result ++ accessors))
      (placed_append of (map Piece.parameter s.parameters) behind (all (map parameter_places s.parameters)) (type_places s.result ++ accessors) (parameters_placed s.parameters)
      (placed_first of (Piece.written s.result) (map Piece.accessor s.accessors) (type_places s.result) accessors refl (accessors_placed s.span.start s.accessors)))

  member_placed : (m : Member) → PiecePlaces of (member m) (member_places of m)
  member_placed (members.Property v) = refl
  member_placed (members.Method f) = refl
  member_placed (members.Subscript s) = refl
  member_placed (members.Initialiser i) = refl

  item_placed : (i : Item) → PiecePlaces of (item i) (item_places of i)
  item_placed (items.Function f) = refl
  item_placed (items.Type t) = refl
  item_placed (items.Global v) = refl
  item_placed (items.Statement s) = refl

  pub items_placed : (is : List Item) → Placed of (map item is) (places_of_items of is)
  items_placed is = placed_map of item (item_places of) (λ i. item_placed i) is

  declaration_splits : (t : TypeDeclaration) → Splits of (own (Piece.declaration t)) (inner (Piece.declaration t)) (type_declaration_places of t)
  declaration_splits t =
      no_code of t.name.span.start (map member t.members) (all (map (member_places of) t.members)) (placed_map of member (member_places of) (λ m. member_placed m) t.members)

  exactly : (p : Piece) (xs ys : Places) → xs ≡ ys → Splits of (own p) (inner p) ys → Splits of (own p) (inner p) xs
  exactly p xs ys e h = subst (λ zs. Splits of (own p) (inner p) zs) (sym e) h

  pub splits : (p : Piece) (xs : Places) → PiecePlaces of p xs → Splits of (own p) (inner p) xs
  splits (Piece.function f) xs e = exactly (Piece.function f) xs (function_places f) e (function_splits f)
  splits (Piece.declaration t) xs e = exactly (Piece.declaration t) xs (type_declaration_places of t) e (declaration_splits t)
  splits (Piece.variable v) xs e = exactly (Piece.variable v) xs (variable_places of v) e (variable_splits v)
  splits (Piece.subscript s) xs e = exactly (Piece.subscript s) xs (subscript_places of s) e (subscript_splits s)
  splits (Piece.initialiser i) xs e = exactly (Piece.initialiser i) xs (initialiser_places i) e (initialiser_splits i)
  splits (Piece.accessor a) xs (place, e) =
      exactly (Piece.accessor a) xs (accessor_places of place a) e
      (no_code of (accessor_place of place a) (Piece.block a.body ∷ []) (block_places a.body) (placed_one of (Piece.block a.body) (block_places a.body) refl))
  splits (Piece.parameter p) xs e =
      exactly (Piece.parameter p) xs (p.name.span.start ∷ type_places p.ty) e (no_code of p.name.span.start (Piece.written p.ty ∷ []) (type_places p.ty) (placed_one of (Piece.written p.ty) (type_places p.ty) refl))
  splits (Piece.written t) xs e = exactly (Piece.written t) xs (type_places t) e (type_splits of t)
  splits (Piece.name n) xs e = exactly (Piece.name n) xs (n.span.start ∷ []) e (no_code of n.span.start [] [] refl)
  splits (Piece.closure_parameter p) xs e =
      exactly (Piece.closure_parameter p) xs (p.name.span.start ∷ type_places p.ty) e (no_code of p.name.span.start (Piece.written p.ty ∷ []) (type_places p.ty) (placed_one of (Piece.written p.ty) (type_places p.ty) refl))
  splits (Piece.statement s) xs e = exactly (Piece.statement s) xs _ e (statement_splits of s)
  splits (Piece.block b) xs e = exactly (Piece.block b) xs (block_places b) e (block_splits of b)
  splits (Piece.expression x) xs e = exactly (Piece.expression x) xs (expr_places x) e (expression_splits of x)
  splits (Piece.argument a) xs e = exactly (Piece.argument a) xs _ e (argument_splits of a)
  splits (Piece.trailing c) xs e = exactly (Piece.trailing c) xs _ e (trailing_splits of c)
  splits (Piece.closure c) xs e = exactly (Piece.closure c) xs _ e (closure_splits of c)
