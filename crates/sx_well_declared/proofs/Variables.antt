-- Globals and properties are judged typed exactly where the rules say it.
use Rattle.std.proofs.Common.{◌≡◌, ◌∙◌, ℕ, Bool, true, false, not, nat_le, List, [], ◌∷◌, length, slice_get, Option, Some, None, cond, refl, ap, true≢false}
use Rattle.sx_span.specs.declared.places.Node.{Node}
use Rattle.sx_tree.specs.declared.code.Expr.{Expr}
use Rattle.sx_tree.specs.declared.declarations.Variable.{Variable}
use Rattle.sx_tree.specs.declared.written_types.WrittenType.{WrittenType}
use Rattle.sx_types.specs.declared.types.Ty.{Ty}
use Rattle.sx_typed.specs.declared.code.Expr.{Expr as TypedExpr}
use Rattle.sx_scope.specs.declared.declarations.Declarations.{Declarations}
use Rattle.sx_scope.specs.declared.declarations.Known.{Known}
use Rattle.sx_scope.specs.declared.declarations.Known.TheVariants as known
use Rattle.sx_scope.specs.declared.stop.TypeKind.TheVariants as kind
use Rattle.sx_scope.specs.declared.stop.TypeStop.{TypeStop}
use Rattle.sx_scope.specs.declared.walk.Asked.TheVariants as asked
use Rattle.sx_scope.specs.declared.walk.Use.TheVariants as uses
use Rattle.sx_scope.specs.declared.walk.Walk.{Walk}
use Rattle.sx_scope.specs.Verdict.{Verdict, typed, depends, fails, is_typed, Judging, ◌▷◌, both, failing, behind}
use Rattle.sx_scope.specs.Walks.{node, advanced}
use Rattle.sx_scope.specs.Names.{given_known}
use Rattle.sx_scope.specs.WrittenTypes.{is_void, judged_type}
use Rattle.sx_check_expr.specs.Judge.{judged_expr}
use Rattle.sx_heads.specs.Variables.{lacks_value}
use Rattle.sx_functions.specs.declared.accessing.OwnNames.{OwnNames}
use Rattle.sx_functions.specs.Accessors.{run_accessors}
use Rattle.sx_functions.specs.Places.{is_new, new_name}
use Rattle.sx_members.specs.declared.variables.TypedVariable.{TypedVariable}
use Rattle.sx_members.specs.Variables.{VariableParts, accessed, accessed_parts, asked_of, broken_type, depending, failed_with, given_fits, given_parts, given_value, giving_place, has_room, initial_value, kept, known_of_parts, narrow_parts, number_of, outer_place, parts_by, some_value, stop_of, type_fits, typed_variable, variable, variable_made, with_stop}
use Rattle.sx_well_typed.specs.Claims.{Claim}
use Rattle.sx_well_typed.proofs.Sound.{sound}
use Rattle.sx_well_typed.proofs.Tree.{expr-derives}
use Rattle.sx_well_typed.proofs.Verdicts.{typed-as, not-typed, then-typed, then-inverted, both_by-typed, both_by-inverted, need-typed, need-inverted}
use Rattle.sx_well_declared.specs.Variables.{InitialValue, TypeAndValue, VariableDeclared, is_failed}
use Rattle.sx_well_declared.proofs.Accessors.{accessors-told, accessors-derived}
use Rattle.sx_well_declared.proofs.Conditions.{not-so, narrowed-typed, narrowed-inverted, unbroken-typed, unbroken-inverted, unbroken-all, unbroken-none, beside-typed, beside-inverted}

-- ---- a declaration that has failed is not typed
failed_with-not : (f : TypeStop) (gs : List TypeStop) (w : Walk) → is_typed (failed_with f gs w) ≡ false
failed_with-not f [] w = refl
failed_with-not f (g ∷ gs) w = by (nat_le (number_of g) (number_of f))
  where
    by : (b : Bool) → is_typed {A = VariableParts} (cond b (fails g (with_stop f gs) w) (fails f (g ∷ gs) w)) ≡ false
    by true = refl
    by false = refl

kept-typed : (k : Known) (o : Option TypeStop) (v : Verdict VariableParts) → is_failed k ≡ false → kept k o v ≡ v
kept-typed known.Failed o v h = absurd (true≢false h)
kept-typed (known.Type t) o v h = refl
kept-typed known.Untold o v h = refl
kept-typed known.Circular o v h = refl

kept-inverted : (k : Known) (o : Option TypeStop) (v : Verdict VariableParts) (x : VariableParts) (w : Walk) → kept k o v ≡ typed x w → (is_failed k ≡ false) × (v ≡ typed x w)
kept-inverted known.Failed (Some f) v x w h =
    not-typed ((true ≡ false) × (v ≡ typed x w)) (failed_with f (failing v) (behind v)) x w (failed_with-not f (failing v) (behind v)) h
kept-inverted known.Failed None v x w h =
    let (y, u, i, j) = then-inverted v depending x w h in
    not-typed ((true ≡ false) × (v ≡ typed x w)) (depends u) x w refl j
kept-inverted (known.Type t) o v x w h = (refl, h)
kept-inverted known.Untold o v x w h = (refl, h)
kept-inverted known.Circular o v x w h = (refl, h)

module _ (d : Declarations) where
  -- ---- the initial value, where a type is written
  initial-told : (t : Ty) (o : Option Expr) (w : Walk) (x : Option TypedExpr) (v : Walk) → InitialValue d t o w x v → initial_value d (asked.Type t) o w ≡ typed x v
  initial-told t _ _ _ _ (InitialValue.no_value w) = refl
  initial-told t _ _ _ _ (InitialValue.a_value e x w v h) =
      then-typed ((judged_expr d e).value outer_place (asked.Type t) uses.Kept w) some_value x v (typed (Some x) v) (sound d (Claim.expression e outer_place (asked.Type t) uses.Kept w x v) h) refl

  initial-derived : (t : Ty) (o : Option Expr) (w : Walk) (x : Option TypedExpr) (v : Walk) → initial_value d (asked.Type t) o w ≡ typed x v → InitialValue d t o w x v
  initial-derived t None w x v h = typed-as (λ x v. InitialValue d t None w x v) None x w v h (InitialValue.no_value w)
  initial-derived t (Some e) w x v h =
      let (y, u, first, made) = then-inverted ((judged_expr d e).value outer_place (asked.Type t) uses.Kept w) some_value x v h in
      typed-as (λ x v. InitialValue d t (Some e) w x v) (Some y) x u v made
      (InitialValue.a_value e y w u (expr-derives d e outer_place (asked.Type t) uses.Kept w y u first))

module _ (d : Declarations) (stops : List (Option TypeStop)) (owner : Option Ty) (n : Node) (k : ℕ) (x : Variable) where
  -- ---- the type and the initial value
  abbrev value_by : Option Ty → Judging (Option TypedExpr)
  value_by o = initial_value d (asked_of o) x.value

  abbrev value_of : Expr → Walk → Verdict TypedExpr
  value_of e w = (judged_expr d e).value (giving_place n) asked.Nothing uses.Kept w

  value-told : (w : Walk) (t : Ty) (o : Option TypedExpr) (v : Walk) → TypeAndValue d owner n k x w t o v → parts_by d stops owner n k x x.ty w ≡ typed (t, o) v
  value-told _ _ _ _ (TypeAndValue.written y t o w w₁ v is type stays full value) =
      ap (λ z. parts_by d stops owner n k x z w) is
      ∙ both_by-typed (judged_type d y w ▷ type_fits owner n x) value_by t w₁ o v
      (unbroken-typed (judged_type d y w) (broken_type owner x) n t w₁ type (unbroken-none (is_void t) (lacks_value owner x) kind.Mismatch kind.MissingDefault stays full))
      (initial-told d t x.value w₁ o v value)
  value-told _ _ _ _ (TypeAndValue.given e y w v none is sure value stays) =
      ap (λ z. parts_by d stops owner n k x z w) none ∙ ap (λ z. given_parts d stops n k z w) is
      ∙ kept-typed (given_known (slice_get d.given k)) (stop_of stops k) (given_value d n e w) sure
      ∙ then-typed (value_of e w) (given_fits n) y v (typed (y.ty, Some y) v) (sound d (Claim.expression e (giving_place n) asked.Nothing uses.Kept w y v) value)
      (need-typed (not (is_void y.ty)) kind.Mismatch n (typed (y.ty, Some y)) v (typed (y.ty, Some y) v) (ap not stays) refl)

  given-derived : (o : Option Expr) (w : Walk) (p : VariableParts) (v : Walk) → x.ty ≡ None → x.value ≡ o → given_parts d stops n k o w ≡ typed p v → TypeAndValue d owner n k x w p.0 p.1 v
  given-derived None w p v none is h = not-typed (TypeAndValue d owner n k x w p.0 p.1 v) (depends w) p v refl h
  given-derived (Some e) w p v none is h =
      let (sure, value) = kept-inverted (given_known (slice_get d.given k)) (stop_of stops k) (given_value d n e w) p v h in
      let (y, u, first, fits) = then-inverted (value_of e w) (given_fits n) p v value in
      let (stays, same) = need-inverted (not (is_void y.ty)) kind.Mismatch n (typed (y.ty, Some y)) u p v fits in
      typed-as (λ (q : VariableParts) z. TypeAndValue d owner n k x w q.0 q.1 z) (y.ty, Some y) p u v same
      (TypeAndValue.given e y w u none is sure (expr-derives d e (giving_place n) asked.Nothing uses.Kept w y u first) (not-so (is_void y.ty) stays))

  value-derived : (z : Option WrittenType) (w : Walk) (p : VariableParts) (v : Walk) → x.ty ≡ z → parts_by d stops owner n k x z w ≡ typed p v → TypeAndValue d owner n k x w p.0 p.1 v
  value-derived None w p v is h = given-derived x.value w p v is refl h
  value-derived (Some y) w p v is h =
      let (w₁, first, value) = both_by-inverted (judged_type d y w ▷ type_fits owner n x) value_by p v h in
      let (type, none) = unbroken-inverted (judged_type d y w) (broken_type owner x) n p.0 w₁ first in
      let (stays, full) = unbroken-all (is_void p.0) (lacks_value owner x) kind.Mismatch kind.MissingDefault none in
      TypeAndValue.written y p.0 p.1 w w₁ v is type stays full (initial-derived d p.0 x.value w₁ p.1 v value)

module _ (d : Declarations) (names : OwnNames) (stops : List (Option TypeStop)) (owner : Option Ty) (seen : List ℕ) (room : Option ℕ) (k : ℕ) (x : Variable) where
  -- ---- a global or property
  abbrev accessors_by : Node → Option (Unit {0} × VariableParts) → Judging (Unit {0})
  accessors_by n o w = run_accessors d names (accessed owner n (known_of_parts o) [] (length w.locals)) (typed tt w) x.accessors

  abbrev fits_room : Unit {0} × VariableParts → Bool
  fits_room y = has_room d.types room y.1.0

  abbrev named_at : Node → Walk → Verdict (Unit {0} × VariableParts)
  named_at n u = both (new_name d seen x.name.number n u) (parts_by d stops owner n k x x.ty)

  pub variable-told : (w : Walk) (y : TypedVariable) (v : Walk) → VariableDeclared d names owner seen room k x w y v → variable d names stops owner seen room k x w ≡ typed y v
  variable-told _ _ _ (VariableDeclared.a_variable t o w w₁ v new value fits others) =
      let n : Node = node w.next in
      let u : Walk = advanced 1 w in
      let p : Unit {0} × VariableParts = (tt, (t, o)) in
      let named : named_at n u ≡ typed p w₁ =
      beside-typed (is_new d seen x.name.number) kind.Duplicate n u (parts_by d stops owner n k x x.ty) (t, o) w₁ new (value-told d stops owner n k x u t o w₁ value) in
      let checked : named_at n u ▷ narrow_parts d room n ≡ typed p w₁ = narrowed-typed (named_at n u) fits_room n p w₁ named fits in
      let all : accessed_parts d names stops owner seen room n k x u ≡ typed (p, tt) v =
      both_by-typed (named_at n u ▷ narrow_parts d room n) (accessors_by n) p w₁ tt v checked
      (accessors-told d names (accessed owner n (known.Type t) [] (length w₁.locals)) x.accessors w₁ v others) in
      then-typed (accessed_parts d names stops owner seen room n k x u) (variable_made n) (p, tt) v (typed (typed_variable n p) v) all refl

  pub variable-derived : (w : Walk) (y : TypedVariable) (v : Walk) → variable d names stops owner seen room k x w ≡ typed y v → VariableDeclared d names owner seen room k x w y v
  variable-derived w y v h =
      let n : Node = node w.next in
      let u : Walk = advanced 1 w in
      let (q, w₂, all, made) = then-inverted (accessed_parts d names stops owner seen room n k x u) (variable_made n) y v h in
      let (w₁, checked, others) = both_by-inverted (named_at n u ▷ narrow_parts d room n) (accessors_by n) q w₂ all in
      let (named, fits) = narrowed-inverted (named_at n u) fits_room n q.0 w₁ checked in
      let (new, value) = beside-inverted (is_new d seen x.name.number) kind.Duplicate n u (parts_by d stops owner n k x x.ty) q.0 w₁ named in
      typed-as (λ y v. VariableDeclared d names owner seen room k x w y v) (typed_variable n q.0) y w₂ v made
      (VariableDeclared.a_variable q.0.1.0 q.0.1.1 w w₁ w₂ new (value-derived d stops owner n k x x.ty u q.0.1 w₁ refl value) fits
      (accessors-derived d names (accessed owner n (known.Type q.0.1.0) [] (length w₁.locals)) x.accessors w₁ w₂ others))
