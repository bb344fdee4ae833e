-- Written types and signatures of closure literals.
use Rattle.std.proofs.Common.{ℕ, [], ◌∷◌, ◌++◌, map, None, refl, sym, subst, ◌∙◌}
use Rattle.sx_tree.specs.declared.nodes.FaultOf.{FaultOf}
use Rattle.sx_tree.specs.declared.written_types.WrittenType.{WrittenType, out-WrittenType}
use Rattle.sx_tree.specs.declared.written_types.TypeForm.{TypeForm, TypeForm-F, out-TypeForm}
use Rattle.sx_tree.specs.declared.written_types.TypeParameter.{TypeParameter, out-TypeParameter}
use Rattle.sx_tree.specs.declared.written_types.Signature.{Signature}
use Rattle.sx_tree.specs.declared.written_types.Signature.TheVariants as signatures
use Rattle.sx_tree.specs.Nodes.{all, closure_parameter_places, name_places, signature_places, option_places, type_form_step, type_parameter_places, type_places}
use Rattle.sx_nodes.specs.Pieces.{Piece, in_signature, in_type_level, optional}
use Rattle.sx_node_places.proofs.Layers.{placed_type_form, type_form_is, type_is, type_parameter_is}
use Rattle.sx_node_places.proofs.Placed.{Placed, Splits, no_code, placed_append, placed_map, placed_one, placed_optional}

module _ (of : FaultOf) where
  type_level : (start : ℕ) (x : TypeForm-F TypeForm TypeParameter WrittenType) → Splits of (None ∷ []) (in_type_level x) (type_form_step (placed_type_form x) start)
  type_level start (TypeForm-F.Named n) = no_code of start [] [] refl
  type_level start TypeForm-F.Unit = no_code of start [] [] refl
  type_level start (TypeForm-F.Bracketed t) = no_code of start (Piece.written t ∷ []) (type_places t) (placed_one of (Piece.written t) (type_places t) refl)
  type_level start (TypeForm-F.Function ps r) =
      let parameters = placed_map of (λ p. Piece.written (out-TypeParameter p).ty) type_parameter_places (λ p. type_parameter_is p) ps in
      let result = placed_one of (Piece.written r) (type_places r) refl in
      no_code of start (map (λ p. Piece.written (out-TypeParameter p).ty) ps ++ Piece.written r ∷ []) (all (map type_parameter_places ps) ++ type_places r)
      (placed_append of (map (λ p. Piece.written (out-TypeParameter p).ty) ps) (Piece.written r ∷ []) (all (map type_parameter_places ps)) (type_places r) parameters result)
  type_level start (TypeForm-F.Array n) = no_code of start [] [] refl

  pub type_splits : (t : WrittenType) → Splits of (None ∷ []) (in_type_level (out-TypeForm (out-WrittenType t).form)) (type_places t)
  type_splits t =
      let start : ℕ = (out-WrittenType t).span.start in
      subst (λ xs. Splits of (None ∷ []) (in_type_level (out-TypeForm (out-WrittenType t).form)) xs) (sym (type_is t ∙ type_form_is (out-WrittenType t).form start))
      (type_level start (out-TypeForm (out-WrittenType t).form))

  pub signature_placed : (g : Signature) → Placed of (in_signature g) (signature_places g)
  signature_placed signatures.Absent = refl
  signature_placed (signatures.Names ns) = placed_map of Piece.name name_places (λ n. refl) ns
  signature_placed (signatures.Typed ps r) =
      placed_append of (map Piece.closure_parameter ps) (optional Piece.written r) (all (map closure_parameter_places ps)) (option_places type_places r)
      (placed_map of Piece.closure_parameter closure_parameter_places (λ p. refl) ps) (placed_optional of Piece.written type_places (λ t. refl) r)
