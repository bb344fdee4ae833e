-- Types made of parts whose places have a property.
use Rattle.std.proofs.Common.{ℕ, List, map, sym, subst}
use Rattle.sx_span.specs.declared.places.Span.{Span}
use Rattle.sx_tree.specs.declared.written_types.TypeForm.{TypeForm, TypeForm-F, fold-roll-TypeForm, roll-TypeForm}
use Rattle.sx_tree.specs.declared.written_types.TypeForm.TheVariants as forms
use Rattle.sx_tree.specs.declared.written_types.TypeParameter.{TypeParameter}
use Rattle.sx_tree.specs.declared.written_types.WrittenType.{WrittenType}
use Rattle.sx_tree.specs.Nodes.{Places, all, type_form_places, type_form_step, type_parameter_places, type_parameter_step, type_places, type_step}
use Rattle.sx_node_places.proofs.Layers.{placed_type_form, type_is, type_parameter_is}
use Rattle.sx_tree_places.proofs.Each.{Each, each_all, each_append}
use Rattle.sx_tree_places.proofs.Placed.{TypeParameterPlaced, TypePlaced}

module _ (P : ℕ → Type 0) where
  -- whatever place the type has
  abbrev pub TypeFormPlaced : TypeForm → Type 0
  TypeFormPlaced f = (start : ℕ) → P start → Each P (type_form_places f start)

  pub type_made : (s : Span) (f : TypeForm) → P s.start → TypeFormPlaced f → TypePlaced P (record { span = s; form = f })
  type_made s f h k = (h, subst (λ xs. Each P xs) (sym (type_is (record { span = s; form = f }))) (k s.start h))

  form_made : (x : TypeForm-F TypeForm TypeParameter WrittenType) → ((start : ℕ) → P start → Each P (type_form_step (placed_type_form x) start)) → TypeFormPlaced (roll-TypeForm x)
  form_made x h start k = subst (λ (g : ℕ → Places). Each P (g start)) (sym (fold-roll-TypeForm (ℕ → Places) Places Places type_form_step type_parameter_step type_step x)) (h start k)

  pub named : (n : ℕ) → TypeFormPlaced (forms.Named n)
  unfolding Rattle.sx_tree.specs.declared.written_types.TypeForm.TheViews.roll-TypeForm denote.Hole.Carrier.roll
  named n = form_made (TypeForm-F.Named n) (λ start h. (h, tt))

  pub unit : TypeFormPlaced forms.Unit
  unfolding Rattle.sx_tree.specs.declared.written_types.TypeForm.TheViews.roll-TypeForm denote.Hole.Carrier.roll
  unit = form_made TypeForm-F.Unit (λ start h. (h, tt))

  pub bracketed : (t : WrittenType) → TypePlaced P t → TypeFormPlaced (forms.Bracketed t)
  unfolding Rattle.sx_tree.specs.declared.written_types.TypeForm.TheViews.roll-TypeForm denote.Hole.Carrier.roll
  bracketed t (p, k) = form_made (TypeForm-F.Bracketed t) (λ start h. (h, k))

  parameter_places : (p : TypeParameter) → TypeParameterPlaced P p → Each P (type_parameter_places p)
  parameter_places p (h, k) = subst (λ xs. Each P xs) (sym (type_parameter_is p)) k

  pub function : (ps : List TypeParameter) (r : WrittenType) → Each (TypeParameterPlaced P) ps → TypePlaced P r → TypeFormPlaced (forms.Function ps r)
  unfolding Rattle.sx_tree.specs.declared.written_types.TypeForm.TheViews.roll-TypeForm denote.Hole.Carrier.roll
  function ps r hs (p, k) =
      form_made (TypeForm-F.Function ps r)
      (λ start h. (h, each_append P (all (map type_parameter_places ps)) (type_places r) (each_all P (TypeParameterPlaced P) type_parameter_places (λ q. parameter_places q) ps hs) k))
