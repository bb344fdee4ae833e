-- Functions and methods are judged typed exactly where the rules say it.
use Rattle.std.proofs.Common.{◌≡◌, ℕ, Bool, not, List, length, Option, None, refl, ap}
use Rattle.sx_span.specs.declared.places.Node.{Node}
use Rattle.sx_tree.specs.declared.declarations.Function.{Function}
use Rattle.sx_types.specs.declared.types.Ty.{Ty}
use Rattle.sx_typed.specs.declared.code.Statement.{Statement as TypedStatement}
use Rattle.sx_scope.specs.declared.declarations.Declarations.{Declarations}
use Rattle.sx_scope.specs.declared.stop.TypeKind.TheVariants as kind
use Rattle.sx_scope.specs.declared.walk.Gives.TheVariants as gives
use Rattle.sx_scope.specs.declared.walk.Walk.{Walk}
use Rattle.sx_scope.specs.Verdict.{Verdict, typed, Judging, ◌▷◌, both, moved}
use Rattle.sx_scope.specs.Walks.{node, advanced}
use Rattle.sx_bodies.specs.Statements.{lacks_return}
use Rattle.sx_bodies.specs.Literals.{with_literal}
use Rattle.sx_check_expr.specs.Judge.{judged_block}
use Rattle.sx_heads.specs.declared.parameters.HeadParameter.{HeadParameter}
use Rattle.sx_heads.specs.declared.parameters.ParameterList.TheVariants as lists
use Rattle.sx_heads.specs.Heads.{checked_head}
use Rattle.sx_heads.specs.Widths.{is_narrow_head}
use Rattle.sx_functions.specs.Functions.{FunctionParts, function, function_added, function_parts, given_by, narrow_head, returning, typed_function}
use Rattle.sx_functions.specs.Places.{body_place, body_value, is_new, left, new_name}
use Rattle.sx_well_typed.proofs.Verdicts.{same-walk, then-typed, then-inverted, both_by-typed, both_by-inverted, need-typed, need-inverted, moved-typed, moved-inverted}
use Rattle.sx_well_declared.specs.Functions.{FunctionDeclared}
use Rattle.sx_well_declared.proofs.Bodies.{body-told, body-derived}
use Rattle.sx_well_declared.proofs.Heads.{head-told, head-derived}
use Rattle.sx_well_declared.proofs.Conditions.{not-so, narrowed-typed, narrowed-inverted, beside-typed, beside-inverted, placed}

module _ (d : Declarations) (owner : Option Ty) (seen : List ℕ) (f : Function) where
  -- the head, and the body behind it
  abbrev head_at : Walk → Verdict (List HeadParameter × Ty)
  head_at u = checked_head d lists.OfFunction f.parameters f.result u

  abbrev narrow : List HeadParameter × Ty → Bool
  narrow h = is_narrow_head d.types f.mutating owner h.0

  abbrev inner : Option (List HeadParameter × Ty) → Judging (List TypedStatement)
  inner h = body_value d (body_place owner f.mutating None (given_by h)) f.body

  abbrev parts_at : Node → Walk → Verdict (Unit {0} × FunctionParts)
  parts_at n u = both (new_name d seen f.name.number n u) (function_parts d owner n f)

  pub function-told : (w v : Walk) → FunctionDeclared d owner seen f w v → function d owner seen f w ≡ typed tt v
  function-told _ _ (FunctionDeclared.a_function ps r ss w w₁ v new head few body) =
      let n : Node = node w.next in
      let u : Walk = advanced 1 w in
      let x : FunctionParts = ((ps, r), ss) in
      let is = body-told d f.body (body_place owner f.mutating None (gives.Type r)) w₁ v ss body in
      let whole : head_at u ▷ narrow_head d owner n f ≡ typed (ps, r) w₁ = narrowed-typed (head_at u) narrow n (ps, r) w₁ (head-told d lists.OfFunction f.parameters f.result u ps r w₁ head) few in
      let parts : function_parts d owner n f u ≡ typed x v = both_by-typed (head_at u ▷ narrow_head d owner n f) inner (ps, r) w₁ ss v whole is.0 in
      let all : parts_at n u ≡ typed (tt, x) v = beside-typed (is_new d seen f.name.number) kind.Duplicate n u (function_parts d owner n f) x v new parts in
      let checked : parts_at n u ▷ returning d n f ≡ typed x v =
      then-typed (parts_at n u) (returning d n f) (tt, x) v (typed x v) all
      (need-typed (not (lacks_return (gives.Type r) (judged_block d f.body))) kind.MissingReturn n (typed x) v (typed x v) (ap not is.1) refl) in
      then-typed (moved (left u) (parts_at n u ▷ returning d n f)) (function_added owner n f (length u.literals)) x (left u v)
      (typed tt (with_literal (length w.literals) (typed_function owner n f x) (left w v))) (moved-typed (left u) (parts_at n u ▷ returning d n f) x v checked) refl

  pub function-derived : (w v : Walk) → function d owner seen f w ≡ typed tt v → FunctionDeclared d owner seen f w v
  function-derived w v h =
      let n : Node = node w.next in
      let u : Walk = advanced 1 w in
      let k : ℕ = length w.literals in
      let (x, w₄, a, added) = then-inverted (moved (left u) (parts_at n u ▷ returning d n f)) (function_added owner n f k) tt v h in
      let (w₃, b, behind) = moved-inverted (left u) (parts_at n u ▷ returning d n f) x w₄ a in
      let (y, w₂, c, returned) = then-inverted (parts_at n u) (returning d n f) x w₃ b in
      let (new, parts) = beside-inverted (is_new d seen f.name.number) kind.Duplicate n u (function_parts d owner n f) y w₂ c in
      let (w₁, first, body) = both_by-inverted (head_at u ▷ narrow_head d owner n f) inner y.1 w₂ parts in
      let (head, few) = narrowed-inverted (head_at u) narrow n y.1.0 w₁ first in
      let (given, same) = need-inverted (not (lacks_return (gives.Type y.1.0.1) (judged_block d f.body))) kind.MissingReturn n (typed y.1) w₂ x w₃ returned in
      let rule : FunctionDeclared d owner seen f w (with_literal k (typed_function owner n f y.1) (left w w₂)) =
      FunctionDeclared.a_function y.1.0.0 y.1.0.1 y.1.1 w w₁ w₂ new (head-derived d lists.OfFunction f.parameters f.result u y.1.0 w₁ head) few
      (body-derived d f.body (body_place owner f.mutating None (gives.Type y.1.0.1)) w₁ w₂ y.1.1 body (not-so (lacks_return (gives.Type y.1.0.1) (judged_block d f.body)) given)) in
      placed (λ z. FunctionDeclared d owner seen f w z) (λ z t. with_literal k (typed_function owner n f z) t) (left w) y.1 x w₂ w₃ w₄ v same behind
      (same-walk tt tt (with_literal k (typed_function owner n f x) w₄) v added) rule
