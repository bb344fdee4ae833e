-- A visit of a written type counts as many nodes as the type has places.
use Rattle.std.proofs.Common.{◌≡◌, ℕ, ◌+◌, List, [], ◌∷◌, ◌++◌, Option, Some, None, length, length-append, map, refl, sym, subst, arith}
use Rattle.sx_types.specs.declared.types.FunctionParameter.{FunctionParameter}
use Rattle.sx_types.specs.declared.types.Ty.{Ty}
use Rattle.sx_types.specs.declared.types.Ty.TheVariants as ty
use Rattle.sx_tree.specs.declared.written_types.TypeForm.{TypeForm, TypeForm-F, fold-TypeForm, fold-roll-TypeForm, map-TypeForm, roll-TypeForm}
use Rattle.sx_tree.specs.declared.written_types.TypeForm.TheOpen as layer
use Rattle.sx_tree.specs.declared.written_types.TypeParameter.{TypeParameter, TypeParameter-F, fold-roll-TypeParameter, map-TypeParameter, roll-TypeParameter}
use Rattle.sx_tree.specs.declared.written_types.WrittenType.{WrittenType, WrittenType-F, fold-roll-WrittenType, ind-WrittenType, map-WrittenType, roll-WrittenType}
use Rattle.sx_tree.specs.Nodes as nodes
use Rattle.sx_outline.specs.Visit.{Finding, counted, type_form_step, type_parameter_step, type_step, type_visit, type_parameter_visit, type_or, type_passed}
use Rattle.sx_order_items.specs.Counts.{Counts, Finds, AllFind}
use Rattle.sx_order_items.proofs.Visits.{function_of-finds, passed-next}

module _ (names : ℕ → Option Ty) where
  abbrev pub type_form_visit : TypeForm → Finding Ty
  type_form_visit = fold-TypeForm (Finding Ty) (Finding FunctionParameter) (Finding Ty) (type_form_step names) type_parameter_step type_step

  abbrev pub FormFinds : TypeForm → Type 0
  FormFinds f = (start : ℕ) → Finds (length (nodes.type_form_places f start)) (type_form_visit f)

  abbrev pub ParameterFinds : TypeParameter → Type 0
  ParameterFinds p = Finds (length (nodes.type_parameter_places p)) (type_parameter_visit names p)

  abbrev pub TypeFinds : WrittenType → Type 0
  TypeFinds t = Finds (length (nodes.type_places t)) (type_visit names t)

  -- ---- a layer, by what its parts count
  abbrev pub placed_form : TypeForm-F TypeForm TypeParameter WrittenType → ℕ → nodes.Places
  placed_form x = nodes.type_form_step (map-TypeForm TypeForm TypeParameter WrittenType (ℕ → nodes.Places) nodes.Places nodes.Places nodes.type_form_places nodes.type_parameter_places nodes.type_places x)

  abbrev pub visited_form : TypeForm-F TypeForm TypeParameter WrittenType → Finding Ty
  visited_form x = type_form_step names (map-TypeForm TypeForm TypeParameter WrittenType (Finding Ty) (Finding FunctionParameter) (Finding Ty) type_form_visit (type_parameter_visit names) (type_visit names) x)

  pub at_form : (x : TypeForm-F TypeForm TypeParameter WrittenType) → ((start : ℕ) → Finds (length (placed_form x start)) (visited_form x)) → FormFinds (roll-TypeForm x)
  at_form x h start =
      let a = fold-roll-TypeForm (Finding Ty) (Finding FunctionParameter) (Finding Ty) (type_form_step names) type_parameter_step type_step x in
      let b = fold-roll-TypeForm (ℕ → nodes.Places) nodes.Places nodes.Places nodes.type_form_step nodes.type_parameter_step nodes.type_step x in
      subst (λ (f : Finding Ty). Finds (length (nodes.type_form_places (roll-TypeForm x) start)) f) (sym a)
      (subst (λ (f : ℕ → nodes.Places). Finds (length (f start)) (visited_form x)) (sym b) (h start))

  pub all_find : (ps : List ((p : TypeParameter) × ParameterFinds p)) → AllFind (length (nodes.all (map nodes.type_parameter_places (map (λ p. p.0) ps)))) (map (type_parameter_visit names) (map (λ p. p.0) ps))
  all_find [] = refl
  all_find (p ∷ ps) =
      let k : ℕ = length (nodes.type_parameter_places p.0) in
      let j : ℕ = length (nodes.all (map nodes.type_parameter_places (map (λ q. q.0) ps))) in
      (k, j, length-append (nodes.type_parameter_places p.0) (nodes.all (map nodes.type_parameter_places (map (λ q. q.0) ps))), p.1, all_find ps)

  pub function-finds : (start : ℕ) (ps : List ((p : TypeParameter) × ParameterFinds p)) (r : WrittenType) → TypeFinds r → Finds (length (placed_form (layer.Function (map (λ p. p.0) ps) r) start)) (visited_form (layer.Function (map (λ p. p.0) ps) r))
  function-finds start ps r h v =
      let before : List ℕ = nodes.all (map nodes.type_parameter_places (map (λ p. p.0) ps)) in
      let behind : List ℕ = nodes.type_places r in
      let parts : length (before ++ behind) ≡ length before + length behind = length-append before behind in
      omega (arith, parts, function_of-finds (map (type_parameter_visit names) (map (λ p. p.0) ps)) (type_visit names r) (length before) (length behind) (all_find ps) h (counted 1 v))

  pub form_finds : (y : TypeForm-F ((f : TypeForm) × FormFinds f) ((p : TypeParameter) × ParameterFinds p) ((t : WrittenType) × TypeFinds t)) (x : TypeForm-F TypeForm TypeParameter WrittenType) →
      map-TypeForm ((f : TypeForm) × FormFinds f) ((p : TypeParameter) × ParameterFinds p) ((t : WrittenType) × TypeFinds t) TypeForm TypeParameter WrittenType (λ f. f.0) (λ p. p.0) (λ t. t.0) y ≡ x → FormFinds (roll-TypeForm x)
  form_finds (layer.Named n) x p = subst (λ z. FormFinds (roll-TypeForm z)) p (at_form (layer.Named n) (λ start v. refl))
  form_finds layer.Unit x p = subst (λ z. FormFinds (roll-TypeForm z)) p (at_form layer.Unit (λ start v. refl))
  form_finds (layer.Bracketed t) x p = subst (λ z. FormFinds (roll-TypeForm z)) p (at_form (layer.Bracketed t.0) (λ start v. omega (arith, t.1 (counted 1 v))))
  form_finds (layer.Function ps r) x p = subst (λ z. FormFinds (roll-TypeForm z)) p (at_form (layer.Function (map (λ q. q.0) ps) r.0) (λ start. function-finds start ps r.0 r.1))
  form_finds (layer.Array n) x p = subst (λ z. FormFinds (roll-TypeForm z)) p (at_form (layer.Array n) (λ start v. refl))

  abbrev pub visited_parameter : TypeParameter-F TypeForm TypeParameter WrittenType → Finding FunctionParameter
  visited_parameter x = type_parameter_step (map-TypeParameter TypeForm TypeParameter WrittenType (Finding Ty) (Finding FunctionParameter) (Finding Ty) type_form_visit (type_parameter_visit names) (type_visit names) x)

  pub at_parameter : (x : TypeParameter-F TypeForm TypeParameter WrittenType) → TypeFinds x.ty → ParameterFinds (roll-TypeParameter x)
  at_parameter x h =
      let a = fold-roll-TypeParameter (Finding Ty) (Finding FunctionParameter) (Finding Ty) (type_form_step names) type_parameter_step type_step x in
      let b = fold-roll-TypeParameter (ℕ → nodes.Places) nodes.Places nodes.Places nodes.type_form_step nodes.type_parameter_step nodes.type_step x in
      let here : Finds (length (nodes.type_places x.ty)) (visited_parameter x) = λ v. omega (arith, h v, passed-next x.inout (type_visit names x.ty v)) in
      subst (λ (f : Finding FunctionParameter). Finds (length (nodes.type_parameter_places (roll-TypeParameter x))) f) (sym a)
      (subst (λ (q : nodes.Places). Finds (length q) (visited_parameter x)) (sym b) here)

  pub parameter_finds : (y : TypeParameter-F ((f : TypeForm) × FormFinds f) ((p : TypeParameter) × ParameterFinds p) ((t : WrittenType) × TypeFinds t)) (x : TypeParameter-F TypeForm TypeParameter WrittenType) →
      map-TypeParameter ((f : TypeForm) × FormFinds f) ((p : TypeParameter) × ParameterFinds p) ((t : WrittenType) × TypeFinds t) TypeForm TypeParameter WrittenType (λ f. f.0) (λ p. p.0) (λ t. t.0) y ≡ x → ParameterFinds (roll-TypeParameter x)
  parameter_finds y x p =
      subst (λ z. ParameterFinds (roll-TypeParameter z)) p
      (at_parameter (map-TypeParameter ((f : TypeForm) × FormFinds f) ((p : TypeParameter) × ParameterFinds p) ((t : WrittenType) × TypeFinds t) TypeForm TypeParameter WrittenType (λ f. f.0) (λ p. p.0) (λ t. t.0) y) y.ty.1)

  pub at_type : (x : WrittenType-F TypeForm TypeParameter WrittenType) → FormFinds x.form → TypeFinds (roll-WrittenType x)
  at_type x h =
      let a = fold-roll-WrittenType (Finding Ty) (Finding FunctionParameter) (Finding Ty) (type_form_step names) type_parameter_step type_step x in
      let b = fold-roll-WrittenType (ℕ → nodes.Places) nodes.Places nodes.Places nodes.type_form_step nodes.type_parameter_step nodes.type_step x in
      subst (λ (f : Finding Ty). Finds (length (nodes.type_places (roll-WrittenType x))) f) (sym a)
      (subst (λ (q : nodes.Places). Finds (length q) (type_form_visit x.form)) (sym b) (h x.span.start))

  pub type_finds : (y : WrittenType-F ((f : TypeForm) × FormFinds f) ((p : TypeParameter) × ParameterFinds p) ((t : WrittenType) × TypeFinds t)) (x : WrittenType-F TypeForm TypeParameter WrittenType) →
      map-WrittenType ((f : TypeForm) × FormFinds f) ((p : TypeParameter) × ParameterFinds p) ((t : WrittenType) × TypeFinds t) TypeForm TypeParameter WrittenType (λ f. f.0) (λ p. p.0) (λ t. t.0) y ≡ x → TypeFinds (roll-WrittenType x)
  type_finds y x p =
      subst (λ z. TypeFinds (roll-WrittenType z)) p
      (at_type (map-WrittenType ((f : TypeForm) × FormFinds f) ((p : TypeParameter) × ParameterFinds p) ((t : WrittenType) × TypeFinds t) TypeForm TypeParameter WrittenType (λ f. f.0) (λ p. p.0) (λ t. t.0) y) y.form.1)

  pub type_visit-finds : (t : WrittenType) → Finds (length (nodes.type_places t)) (type_visit names t)
  type_visit-finds = ind-WrittenType FormFinds ParameterFinds TypeFinds (λ x y p. form_finds y x p) (λ x y p. parameter_finds y x p) (λ x y p. type_finds y x p)

  -- one that may be written
  pub type_or-finds : (t : Ty) (o : Option WrittenType) → Finds (length (nodes.option_places nodes.type_places o)) (type_or names t o)
  type_or-finds t None v = omega arith
  type_or-finds t (Some w) v = type_visit-finds w v

  pub type_passed-counts : (o : Option WrittenType) → Counts (length (nodes.option_places nodes.type_places o)) (type_passed names o)
  type_passed-counts o v = type_or-finds ty.Void o v
