-- Subscripts are judged typed exactly where the rules say it.
use Rattle.std.proofs.Common.{◌≡◌, ◌∙◌, Bool, not, List, length, Option, Some, None, refl, ap, subst}
use Rattle.sx_span.specs.declared.places.Node.{Node}
use Rattle.sx_tree.specs.declared.declarations.Subscript.{Subscript}
use Rattle.sx_types.specs.declared.types.Ty.{Ty}
use Rattle.sx_scope.specs.declared.declarations.Declarations.{Declarations}
use Rattle.sx_scope.specs.declared.declarations.Known.TheVariants as known
use Rattle.sx_scope.specs.declared.stop.TypeKind.TheVariants as kind
use Rattle.sx_scope.specs.declared.walk.Walk.{Walk}
use Rattle.sx_scope.specs.Verdict.{Verdict, typed, Judging, ◌▷◌, moved}
use Rattle.sx_scope.specs.Walks.{node, advanced}
use Rattle.sx_scope.specs.WrittenTypes.{is_void}
use Rattle.sx_heads.specs.declared.parameters.HeadParameter.{HeadParameter}
use Rattle.sx_heads.specs.declared.parameters.ParameterList.TheVariants as lists
use Rattle.sx_heads.specs.Heads.{checked_head}
use Rattle.sx_functions.specs.declared.accessing.OwnNames.{OwnNames}
use Rattle.sx_functions.specs.Accessors.{run_accessors}
use Rattle.sx_functions.specs.Places.{left}
use Rattle.sx_members.specs.declared.members.NamedProperty.{NamedProperty}
use Rattle.sx_members.specs.Members.{HeadParts, known_of_head, no_property, parameters_of, result_fits, subscript, subscript_head, subscript_parts}
use Rattle.sx_members.specs.Variables.{accessed}
use Rattle.sx_well_typed.proofs.Verdicts.{same-part, same-walk, then-typed, then-inverted, both_by-typed, both_by-inverted, moved-typed, moved-inverted}
use Rattle.sx_well_declared.specs.Subscripts.{SubscriptDeclared}
use Rattle.sx_well_declared.proofs.Accessors.{accessors-told, accessors-derived}
use Rattle.sx_well_declared.proofs.Heads.{head-told, head-derived}
use Rattle.sx_well_declared.proofs.Conditions.{not-so, needed-typed, needed-inverted, beside, beside-typed, beside-inverted}

module _ (d : Declarations) (names : OwnNames) (owner : Option Ty) (another : Bool) (s : Subscript) where
  -- the head, and the accessors behind it
  abbrev types_at : Walk → Verdict (List HeadParameter × Ty)
  types_at u = checked_head d lists.OfSubscript s.parameters (Some s.result) u

  abbrev fitting_at : Node → Judging (List HeadParameter × Ty)
  fitting_at n u = types_at u ▷ result_fits n

  abbrev gives_value : List HeadParameter × Ty → Bool
  gives_value h = not (is_void h.1)

  abbrev accessors_by : Node → Walk → Option HeadParts → Judging (Unit {0})
  accessors_by n u o v = run_accessors d names (accessed owner n (known_of_head o) (parameters_of o) (length u.locals)) (typed tt v) s.accessors

  abbrev parts_at : Node → Walk → Verdict (HeadParts × Unit {0})
  parts_at n u = subscript_parts d names owner another n s u

  pub subscript-told : (w v : Walk) → SubscriptDeclared d names owner another s w v → subscript d names owner another s w ≡ typed None v
  subscript-told _ _ (SubscriptDeclared.a_subscript ps r w w₁ v alone types stays others) =
      let n : Node = node w.next in
      let u : Walk = advanced 1 w in
      let h : HeadParts = beside (ps, r) in
      let fits : fitting_at n u ≡ typed (ps, r) w₁ = needed-typed (types_at u) gives_value kind.Mismatch n (ps, r) w₁ (head-told d lists.OfSubscript s.parameters (Some s.result) u ps r w₁ types) (ap not stays) in
      let head : subscript_head d another n s u ≡ typed h w₁ = beside-typed (not another) kind.Duplicate n u (fitting_at n) (ps, r) w₁ (ap not alone) fits in
      let all : parts_at n u ≡ typed (h, tt) v =
      both_by-typed (subscript_head d another n s u) (accessors_by n u) h w₁ tt v head
      (accessors-told d names (accessed owner n (known.Type r) ps (length w.locals)) s.accessors w₁ v others) in
      then-typed (moved (left u) (parts_at n u)) no_property (h, tt) (left u v) (typed None (left w v)) (moved-typed (left u) (parts_at n u) (h, tt) v all) refl

  pub subscript-derived : (w : Walk) (o : Option NamedProperty) (v : Walk) → subscript d names owner another s w ≡ typed o v → (None ≡ o) × SubscriptDeclared d names owner another s w v
  subscript-derived w o v h =
      let n : Node = node w.next in
      let u : Walk = advanced 1 w in
      let (x, w₃, a, made) = then-inverted (moved (left u) (parts_at n u)) no_property o v h in
      let (w₂, all, behind) = moved-inverted (left u) (parts_at n u) x w₃ a in
      let (w₁, head, others) = both_by-inverted (subscript_head d another n s u) (accessors_by n u) x w₂ all in
      let (alone, fits) = beside-inverted (not another) kind.Duplicate n u (fitting_at n) x.0 w₁ head in
      let (types, stays) = needed-inverted (types_at u) gives_value kind.Mismatch n x.0.1 w₁ fits in (
        same-part None o w₃ v made,
        subst (λ z. SubscriptDeclared d names owner another s w z) (behind ∙ same-walk None o w₃ v made)
            (SubscriptDeclared.a_subscript x.0.1.0 x.0.1.1 w w₁ w₂ (not-so another alone) (head-derived d lists.OfSubscript s.parameters (Some s.result) u x.0.1 w₁ types) (not-so (is_void x.0.1.1) stays)
            (accessors-derived d names (accessed owner n (known.Type x.0.1.1) x.0.1.0 (length w.locals)) s.accessors w₁ w₂ others)),
      )
