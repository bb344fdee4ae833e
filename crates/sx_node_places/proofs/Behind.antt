-- Parts behind an operand: how many nodes they make at its place, and what stands in them.
use Rattle.std.proofs.Common.{◌≡◌, ℕ, ◌+◌, List, [], ◌∷◌, ◌++◌, map, length, replicate, Some, None, refl, sym, ap, subst, ◌∙◌, arith, append_assoc, append-nil}
use Rattle.std.proofs.lemmas.List.{replicate-append-replicate}
use Rattle.sx_tree.specs.declared.nodes.FaultOf.{FaultOf}
use Rattle.sx_tree.specs.declared.code.Argument.{Argument}
use Rattle.sx_tree.specs.declared.code.Closure.{Closure}
use Rattle.sx_tree.specs.declared.code.Expr.{Expr}
use Rattle.sx_tree.specs.declared.code.Part.{Part, Part-F, out-Part}
use Rattle.sx_tree.specs.Nodes.{Places, PartNodes, all, argument_places, closure_places, expr_places, inner_of_parts, own_of_parts, part_nodes, part_step, trailing}
use Rattle.sx_nodes.specs.Pieces.{Piece, Level, in_part, in_part_level, in_parts}
use Rattle.sx_node_places.proofs.Layers.{part_is, placed_part}
use Rattle.sx_node_places.proofs.Placed.{Placed, placed_append, placed_map, placed_one}

-- ---- the nodes that they make at the place of the operand
abbrev pub own_count : Part → ℕ
own_count p = length ((part_nodes p).own 0)

abbrev pub own_counts : List Part → ℕ
own_counts [] = 0
own_counts (p ∷ ps) = own_count p + own_counts ps

abbrev pub inner_places : List Part → Places
inner_places ps = inner_of_parts (map part_nodes ps)

own_level : (x : Level Part-F) (start : ℕ) → (part_step (placed_part x)).own start ≡ replicate (length ((part_step (placed_part x)).own 0)) start
own_level (Part-F.Member end x None) start = refl
own_level (Part-F.Member end x (Some c)) start = refl
own_level (Part-F.Index end es) start = refl
own_level (Part-F.Call end as_ c) start = refl

own_places : (p : Part) (start : ℕ) → (part_nodes p).own start ≡ replicate (own_count p) start
own_places p start = subst (λ (y : PartNodes). y.own start ≡ replicate (length (y.own 0)) start) (sym (part_is p)) (own_level (out-Part p) start)

pub own_of_parts_are : (ps : List Part) (start : ℕ) → own_of_parts (map part_nodes ps) start ≡ replicate (own_counts ps) start
own_of_parts_are [] start = refl
own_of_parts_are (p ∷ ps) start =
    ap (λ xs. xs ++ own_of_parts (map part_nodes ps) start) (own_places p start)
    ∙ ap (λ xs. replicate (own_count p) start ++ xs) (own_of_parts_are ps start)
    ∙ replicate-append-replicate (own_count p) (own_counts ps) start

pub own_counts_next : (ps : List Part) (p : Part) → own_counts (ps ++ p ∷ []) ≡ own_counts ps + own_count p
own_counts_next [] p = omega arith
own_counts_next (q ∷ ps) p = omega (arith, own_counts_next ps p)

pub inner_places_next : (ps : List Part) (p : Part) → inner_places (ps ++ p ∷ []) ≡ inner_places ps ++ (part_nodes p).inner
inner_places_next [] p = append-nil (part_nodes p).inner
inner_places_next (q ∷ ps) p =
    ap (λ xs. (part_nodes q).inner ++ xs) (inner_places_next ps p) ∙ sym (append_assoc (part_nodes q).inner (inner_places ps) (part_nodes p).inner)

pub inner_places_append : (ps qs : List Part) → inner_places (ps ++ qs) ≡ inner_places ps ++ inner_places qs
inner_places_append [] qs = refl
inner_places_append (p ∷ ps) qs =
    ap (λ xs. (part_nodes p).inner ++ xs) (inner_places_append ps qs) ∙ sym (append_assoc (part_nodes p).inner (inner_places ps) (inner_places qs))

-- ---- what stands in them
module _ (of : FaultOf) where
  pub trailing_placed : (c : Closure) → Placed of (Piece.trailing c ∷ []) (trailing (Some (closure_places c)))
  trailing_placed c = placed_one of (Piece.trailing c) (trailing (Some (closure_places c))) refl

  pub expressions_placed : (es : List Expr) → Placed of (map Piece.expression es) (all (map expr_places es))
  expressions_placed es = placed_map of Piece.expression expr_places (λ e. refl) es

  pub arguments_placed : (as_ : List Argument) → Placed of (map Piece.argument as_) (all (map argument_places as_))
  arguments_placed as_ = placed_map of Piece.argument argument_places (λ a. refl) as_

  level_placed : (x : Level Part-F) → Placed of (in_part_level x) (part_step (placed_part x)).inner
  level_placed (Part-F.Member end x None) = refl
  level_placed (Part-F.Member end x (Some c)) = trailing_placed c
  level_placed (Part-F.Index end es) = expressions_placed es
  level_placed (Part-F.Call end as_ None) = placed_append of (map Piece.argument as_) [] (all (map argument_places as_)) [] (arguments_placed as_) refl
  level_placed (Part-F.Call end as_ (Some c)) =
      placed_append of (map Piece.argument as_) (Piece.trailing c ∷ []) (all (map argument_places as_)) (trailing (Some (closure_places c))) (arguments_placed as_) (trailing_placed c)

  pub in_parts_placed : (ps : List Part) → Placed of (in_parts ps) (inner_places ps)
  in_parts_placed [] = refl
  in_parts_placed (p ∷ ps) =
      placed_append of (in_part p) (in_parts ps) (part_nodes p).inner (inner_places ps)
      (subst (λ (y : PartNodes). Placed of (in_part p) y.inner) (sym (part_is p)) (level_placed (out-Part p))) (in_parts_placed ps)
