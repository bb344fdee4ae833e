-- Locals whose name may be declared.
use Rattle.std.proofs.Common.{◌≡◌, ℕ, Bool, true, false, Option, None, Err, cond, refl, sym, ap, subst, ◌∙◌}
use Rattle.sx_span.specs.declared.places.Node.{Node}
use Rattle.sx_types.specs.declared.types.Ty.{Ty}
use Rattle.sx_typed.specs.declared.code.Expr.{Expr}
use Rattle.sx_typed.specs.declared.code.Statement.{Statement}
use Rattle.sx_scope.specs.declared.declarations.Declarations.{Declarations}
use Rattle.sx_scope.specs.declared.stop.TypeKind.TheVariants as kind
use Rattle.sx_scope.specs.declared.stop.TypeStop.{TypeStop}
use Rattle.sx_scope.specs.declared.stop.TypeStop.TheVariants.{Typing}
use Rattle.sx_scope.specs.declared.walk.Place.{Place}
use Rattle.sx_scope.specs.declared.walk.Use.TheVariants as uses
use Rattle.sx_scope.specs.declared.walk.Walk.{Walk}
use Rattle.sx_scope.specs.Verdict.{Verdict, typed, untold, depends, fails, Judging, ◌▷◌, both, both_by, beside_typed, failing, need, Answers}
use Rattle.sx_scope.specs.Walks.{advanced, node}
use Rattle.sx_calls.specs.Parts.{JudgedExpr}
use Rattle.sx_bodies.specs.Statements.{asked_by_written, declared_local, declared_with, declares, giving_in, is_fresh, local_stated, local_statement, local_value, not_void_written, stated_type}
use Rattle.sx_bodies.proofs.Failing.{Fails}
use Rattle.sx_check_expr.proofs.Stops.{then_stops}

-- the written type and the value of a local, which fails where they don't fit
abbrev pub valued : Place → Bool → Judging (Option Ty) → JudgedExpr → Node → Judging Expr
valued p written ty e n w = both_by (ty w ▷ not_void_written n) (λ t. e.value (giving_in p written n) (asked_by_written t) uses.Kept) ▷ (λ x. declared_with n (tt, x))

beside-then : (v : Verdict (Option Ty × Expr)) (n : Node) → beside_typed tt v ▷ declared_with n ≡ v ▷ (λ x. declared_with n (tt, x))
beside-then (typed a w) n = refl
beside-then (untold w) n = refl
beside-then (depends w) n = refl
beside-then (fails f fs w) n = refl

module _ (d : Declarations) (p : Place) (x : ℕ) (constant written : Bool) (ty : Judging (Option Ty)) (e : JudgedExpr) (n : Node) (w : Walk) where
  abbrev pub parts : Judging (Option Ty × Expr)
  parts w = both_by (ty w ▷ not_void_written n) (λ t. e.value (giving_in p written n) (asked_by_written t) uses.Kept)

  -- the declaration of a local by whether its name may be declared
  abbrev pub declared_by : Bool → Verdict Expr
  declared_by b = declares p x constant n (cond b (stated_type (ty w ▷ not_void_written n)) None) (both (need b kind.Duplicate n (typed tt) w) parts ▷ declared_with n)

  pub where_fresh : is_fresh d p.outside_block x w ≡ true → declares p x constant n (stated_type (ty w ▷ not_void_written n)) (valued p written ty e n w) ≡ declares p x constant n (local_stated d p x ty n w) (local_value d p x written ty e n w)
  where_fresh h = ap (declares p x constant n (stated_type (ty w ▷ not_void_written n))) (sym (beside-then (parts w) n)) ∙ ap declared_by (sym h)

  pub where_taken : is_fresh d p.outside_block x w ≡ false → Fails (Typing kind.Duplicate n) (declares p x constant n (local_stated d p x ty n w) (local_value d p x written ty e n w))
  where_taken h = subst (λ b. Fails (Typing kind.Duplicate n) (declared_by b)) (sym h) (failing (parts w), _, refl)

-- the statement of a local that fails
pub local_stops : (d : Declarations) (p : Place) (x : ℕ) (constant written : Bool) (ty : Judging (Option Ty)) (e : JudgedExpr) (site : ℕ) (stop : TypeStop) (now : Walk) (n : Node) (w u : Walk) → n ≡ node u.next → w ≡ advanced 1 u →
    Answers {A = Expr} (Err stop) now (declares p x constant n (local_stated d p x ty n w) (local_value d p x written ty e n w)) → Answers {A = Statement} (Err stop) now (local_statement d constant x site written ty e p u)
local_stops d p x constant written ty e site stop now n w u is at h =
    let value : Node → Judging Expr = λ n w. declares p x constant n (local_stated d p x ty n w) (local_value d p x written ty e n w) in
    let run : Node → Judging Statement = λ n w. value n w ▷ declared_local constant n x site in
    subst (λ (m : Node). Answers {A = Statement} (Err stop) now (run m (advanced 1 u))) is
    (subst (λ (v : Walk). Answers {A = Statement} (Err stop) now (run n v)) at (then_stops stop now now (declared_local constant n x site) (value n w) h))
