-- Parameters that fail.
use Rattle.std.proofs.Common.{◌≡◌, ℕ, Bool, true, false, not, Option, sym, ap, subst, ◌∙◌}
use Rattle.sx_scope.specs.declared.declarations.Declarations.{Declarations}
use Rattle.sx_scope.specs.declared.stop.TypeKind.{TypeKind}
use Rattle.sx_scope.specs.declared.stop.TypeKind.TheVariants as kind
use Rattle.sx_scope.specs.declared.stop.TypeStop.TheVariants.{Typing}
use Rattle.sx_scope.specs.declared.walk.Walk.{Walk}
use Rattle.sx_scope.specs.Verdict.{Verdict, typed, ◌▷◌, both, beside_typed, need}
use Rattle.sx_scope.specs.Walks.{advanced, node}
use Rattle.sx_scope.specs.WrittenTypes.{is_void}
use Rattle.sx_span.specs.declared.places.Node.{Node}
use Rattle.sx_types.specs.declared.types.FunctionParameter.{FunctionParameter}
use Rattle.sx_types.specs.declared.types.Ty.{Ty}
use Rattle.sx_bodies.specs.Statements.{is_fresh}
use Rattle.sx_bodies.specs.Literals.{TypedName, declares_parameter, inout_by, named_parameter, not_void, parameter, parameter_by, typed_parameter}
use Rattle.sx_bodies.proofs.Failing.{Fails, told}

here : {A : Type 0} (k : TypeKind) (m n : Node) (v : Verdict A) → n ≡ m → Fails (Typing k m) v → Fails (Typing k n) v
here k m n v e f = subst (λ (x : Node). Fails (Typing k x) v) (sym e) f

fresh_at : (d : Declarations) (from x : ℕ) (w w1 : Walk) (b : Bool) → w1 ≡ advanced 1 w → is_fresh d from x w1 ≡ b → is_fresh d from x (advanced 1 w) ≡ b
fresh_at d from x w w1 b e h = ap (is_fresh d from x) (sym e) ∙ h

-- its name is taken
pub named_taken : (d : Declarations) (from x : ℕ) (o : Option FunctionParameter) (w w1 : Walk) (n : Node) → n ≡ node w.next → w1 ≡ advanced 1 w → is_fresh d from x w1 ≡ false → Fails (Typing kind.Duplicate n) (named_parameter d from x o w)
named_taken d from x o w w1 n at walk taken =
    here _ _ n _ at (told _ _ _ _
    (ap (λ (b : Bool). declares_parameter from x (node w.next) (inout_by o) (need b kind.Duplicate (node w.next) (typed tt) (advanced 1 w) ▷ (λ u. parameter_by (node w.next) x o))) (fresh_at d from x w w1 false walk taken)))

pub typed_taken : (d : Declarations) (from : ℕ) (p : TypedName) (w w1 : Walk) (n : Node) → n ≡ node w.next → w1 ≡ advanced 1 w → is_fresh d from p.name w1 ≡ false → Fails (Typing kind.Duplicate n) (typed_parameter d from p w)
typed_taken d from p w w1 n at walk taken =
    here _ _ n _ at (told _ _ _ _
    (ap (λ (b : Bool). declares_parameter from p.name (node w.next) p.inout (both (need b kind.Duplicate (node w.next) (typed tt) (advanced 1 w)) p.ty ▷ not_void (node w.next) p.name p.inout)) (fresh_at d from p.name w w1 false walk taken)))

-- its type is `Void`
pub typed_void : (d : Declarations) (from : ℕ) (p : TypedName) (t : Ty) (w w1 w2 : Walk) (n : Node) → n ≡ node w.next → w1 ≡ advanced 1 w → is_fresh d from p.name w1 ≡ true → p.ty w1 ≡ typed t w2 → is_void t ≡ true → Fails (Typing kind.Mismatch n) (typed_parameter d from p w)
typed_void d from p t w w1 w2 n at walk free ty void =
    here _ _ n _ at (told _ _ _ _
    (ap (λ (b : Bool). declares_parameter from p.name (node w.next) p.inout (both (need b kind.Duplicate (node w.next) (typed tt) (advanced 1 w)) p.ty ▷ not_void (node w.next) p.name p.inout)) (fresh_at d from p.name w w1 true walk free)
    ∙ ap (λ (v : Verdict Ty). declares_parameter from p.name (node w.next) p.inout (beside_typed tt v ▷ not_void (node w.next) p.name p.inout)) (ap p.ty (sym walk) ∙ ty)
    ∙ ap (λ (b : Bool). declares_parameter from p.name (node w.next) p.inout (need (not b) kind.Mismatch (node w.next) (typed (parameter (node w.next) p.name p.inout t)) w2)) void))
