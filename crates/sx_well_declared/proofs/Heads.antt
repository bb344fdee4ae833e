-- Heads of functions and subscripts are judged typed exactly where the rules say it.
use Rattle.std.proofs.Common.{◌≡◌, ◌∙◌, ℕ, not, ◌&&◌, List, [], ◌∷◌, ◌++◌, length, map, Option, Some, None, refl, sym, ap, subst}
use Rattle.sx_span.specs.declared.places.Node.{Node}
use Rattle.sx_tree.specs.declared.declarations.Parameter.{Parameter}
use Rattle.sx_tree.specs.declared.written_types.WrittenType.{WrittenType}
use Rattle.sx_types.specs.declared.types.Ty.{Ty}
use Rattle.sx_types.specs.declared.types.Ty.TheVariants as ty
use Rattle.sx_scope.specs.declared.declarations.Declarations.{Declarations}
use Rattle.sx_scope.specs.declared.declarations.Known.TheVariants as known
use Rattle.sx_scope.specs.declared.stop.TypeKind.TheVariants as kind
use Rattle.sx_scope.specs.declared.walk.Walk.{Walk}
use Rattle.sx_scope.specs.Verdict.{Verdict, typed, untold, depends, fails, ◌▷◌, both}
use Rattle.sx_scope.specs.Walks.{node, advanced}
use Rattle.sx_scope.specs.Names.{is_function}
use Rattle.sx_scope.specs.WrittenTypes.{judged_type}
use Rattle.sx_bodies.specs.Statements.{fresh, is_fresh, unless_taken}
use Rattle.sx_heads.specs.declared.parameters.HeadParameter.{HeadParameter}
use Rattle.sx_heads.specs.declared.parameters.ParameterList.{ParameterList}
use Rattle.sx_heads.specs.Heads.{broken_parameter, checked_head, checked_parameter, declares_parameter, fitting, head_parameter, is_escaping, may_not_be, parameter_added, parameter_local, result_type, run_parameters}
use Rattle.sx_well_typed.proofs.Verdicts.{First, typed-as, not-typed, then-typed, then-inverted, both-typed, both_by-inverted, unless_broken-typed, unless_broken-inverted, added-first, added-inverted}
use Rattle.sx_well_declared.specs.Heads.{ParameterDeclared, ParametersDeclared, ResultDeclared, HeadDeclared}
use Rattle.sx_well_declared.proofs.Conditions.{beside, beside-typed, beside-inverted, unbroken-all, unbroken-none}

module _ (d : Declarations) (l : ParameterList) (from : ℕ) where
  -- ---- a parameter
  abbrev fresh_at : Parameter → Node → Walk → Verdict (Unit {0} × Ty)
  fresh_at p n u = both (fresh d from p.name.number n u) (judged_type d p.ty)

  parameter-told : (p : Parameter) (w : Walk) (h : HeadParameter) (v : Walk) → ParameterDeclared d l from p w h v → checked_parameter d l from p w ≡ typed h v
  parameter-told p _ _ _ (ParameterDeclared.a_parameter t w v new type may marked) =
      let n : Node = node w.next in
      let u : Walk = advanced 1 w in
      let h : HeadParameter = head_parameter n p t in
      let first : fresh_at p n u ≡ typed (beside t) v = beside-typed (is_fresh d from p.name.number u) kind.Duplicate n u (judged_type d p.ty) t v new type in
      let fits : fresh_at p n u ▷ fitting l n p ≡ typed h v =
      then-typed (fresh_at p n u) (fitting l n p) (beside t) v (typed h v) first
      (unless_broken-typed (broken_parameter l p.marker t) n (typed h) v (typed h v) (unbroken-none (may_not_be l p.marker t) (is_escaping p.marker && not (is_function t)) kind.Mismatch kind.EscapingUse may marked) refl) in
      ap (declares_parameter from n p) fits

  -- what is typed before a parameter comes into scope
  abbrev Declares : Node → Parameter → Verdict HeadParameter → HeadParameter → Walk → Type 0
  Declares n p r h v = (w : Walk) × (r ≡ typed h w) × (unless_taken from (parameter_local n p (known.Type h.parameter.ty)) w ≡ v)

  declares-inverted : (n : Node) (p : Parameter) (r : Verdict HeadParameter) (h : HeadParameter) (v : Walk) → declares_parameter from n p r ≡ typed h v → Declares n p r h v
  declares-inverted n p (typed g w) h v k =
      typed-as (λ y z. Declares n p (typed g w) y z) g h (unless_taken from (parameter_local n p (known.Type g.parameter.ty)) w) v k (w, refl, refl)
  declares-inverted n p (untold w) h v k = not-typed (Declares n p (untold w) h v) (declares_parameter from n p (untold w)) h v refl k
  declares-inverted n p (depends w) h v k = not-typed (Declares n p (depends w) h v) (declares_parameter from n p (depends w)) h v refl k
  declares-inverted n p (fails f fs w) h v k = not-typed (Declares n p (fails f fs w) h v) (declares_parameter from n p (fails f fs w)) h v refl k

  parameter-derived : (p : Parameter) (w : Walk) (h : HeadParameter) (v : Walk) → checked_parameter d l from p w ≡ typed h v → ParameterDeclared d l from p w h v
  parameter-derived p w h v k =
      let n : Node = node w.next in
      let u : Walk = advanced 1 w in
      let (w₂, checked, behind) = declares-inverted n p (fresh_at p n u ▷ fitting l n p) h v k in
      let (y, w₁, first, fits) = then-inverted (fresh_at p n u) (fitting l n p) h w₂ checked in
      let (new, type) = beside-inverted (is_fresh d from p.name.number u) kind.Duplicate n u (judged_type d p.ty) y w₁ first in
      let (none, same) = unless_broken-inverted (broken_parameter l p.marker y.1) n (typed (head_parameter n p y.1)) w₁ h w₂ fits in
      let (may, marked) = unbroken-all (may_not_be l p.marker y.1) (is_escaping p.marker && not (is_function y.1)) kind.Mismatch kind.EscapingUse none in
      subst (λ z. ParameterDeclared d l from p w h z) behind
      (typed-as (λ (g : HeadParameter) s. ParameterDeclared d l from p w g (unless_taken from (parameter_local n p (known.Type g.parameter.ty)) s)) (head_parameter n p y.1) h w₁ w₂ same
      (ParameterDeclared.a_parameter y.1 w w₁ new type may marked))

  -- ---- parameters one after another
  parameters-told : (ps : List Parameter) (before : List HeadParameter) (w : Walk) (hs : List HeadParameter) (v : Walk) → ParametersDeclared d l from ps before w hs v → run_parameters (typed before w) (map (checked_parameter d l from) ps) ≡ typed hs v
  parameters-told _ _ _ _ _ (ParametersDeclared.parameters_end before w) = refl
  parameters-told _ _ _ _ _ (ParametersDeclared.parameters_more p ps h before hs w w₁ v one more) =
      ap (λ r. run_parameters (r ▷ parameter_added) (map (checked_parameter d l from) ps))
      (both-typed (typed before w) (checked_parameter d l from p) before w h w₁ refl (parameter-told p w h w₁ one))
      ∙ parameters-told ps (before ++ h ∷ []) w₁ hs v more

  parameters-first : (r : Verdict (List HeadParameter)) (ps : List Parameter) (hs : List HeadParameter) (v : Walk) → run_parameters r (map (checked_parameter d l from) ps) ≡ typed hs v → First r
  parameters-first r [] hs v k = (hs, v, k)
  parameters-first r (p ∷ ps) hs v k =
      let (x, w, one) = parameters-first (both r (checked_parameter d l from p) ▷ parameter_added) ps hs v k in
      added-first r (checked_parameter d l from p) parameter_added x w one

  parameters-derived : (ps : List Parameter) (before : List HeadParameter) (w : Walk) (hs : List HeadParameter) (v : Walk) → run_parameters (typed before w) (map (checked_parameter d l from) ps) ≡ typed hs v → ParametersDeclared d l from ps before w hs v
  parameters-derived [] before w hs v k = typed-as (λ hs v. ParametersDeclared d l from [] before w hs v) before hs w v k (ParametersDeclared.parameters_end before w)
  parameters-derived (p ∷ ps) before w hs v k =
      let (x, w₂, one) = parameters-first (both (typed before w) (checked_parameter d l from p) ▷ parameter_added) ps hs v k in
      let (h, w₁, first, made) = added-inverted before w (checked_parameter d l from p) parameter_added x w₂ one in
      ParametersDeclared.parameters_more p ps h before hs w w₁ v (parameter-derived p w h w₁ first)
      (parameters-derived ps (before ++ h ∷ []) w₁ hs v (ap (λ r. run_parameters r (map (checked_parameter d l from) ps)) (made ∙ sym one) ∙ k))

module _ (d : Declarations) where
  -- ---- a result
  result-told : (r : Option WrittenType) (w : Walk) (t : Ty) (v : Walk) → ResultDeclared d r w t v → result_type d r w ≡ typed t v
  result-told _ _ _ _ (ResultDeclared.no_result w) = refl
  result-told _ _ _ _ (ResultDeclared.a_result y t w v h) = h

  result-derived : (r : Option WrittenType) (w : Walk) (t : Ty) (v : Walk) → result_type d r w ≡ typed t v → ResultDeclared d r w t v
  result-derived None w t v h = typed-as (λ t v. ResultDeclared d None w t v) ty.Void t w v h (ResultDeclared.no_result w)
  result-derived (Some y) w t v h = ResultDeclared.a_result y t w v h

  -- ---- a head
  pub head-told : (l : ParameterList) (ps : List Parameter) (r : Option WrittenType) (w : Walk) (hs : List HeadParameter) (t : Ty) (v : Walk) → HeadDeclared d l ps r w hs t v → checked_head d l ps r w ≡ typed (hs, t) v
  head-told l ps r _ _ _ _ (HeadDeclared.a_head hs t w w₁ v parameters result) =
      both-typed (run_parameters (typed [] w) (map (checked_parameter d l (length w.locals)) ps)) (result_type d r) hs w₁ t v
      (parameters-told d l (length w.locals) ps [] w hs w₁ parameters) (result-told r w₁ t v result)

  pub head-derived : (l : ParameterList) (ps : List Parameter) (r : Option WrittenType) (w : Walk) (h : List HeadParameter × Ty) (v : Walk) → checked_head d l ps r w ≡ typed h v → HeadDeclared d l ps r w h.0 h.1 v
  head-derived l ps r w h v k =
      let (w₁, parameters, result) = both_by-inverted (run_parameters (typed [] w) (map (checked_parameter d l (length w.locals)) ps)) (λ _. result_type d r) h v k in
      HeadDeclared.a_head h.0 h.1 w w₁ v (parameters-derived d l (length w.locals) ps [] w h.0 w₁ parameters) (result-derived r w₁ h.1 v result)
