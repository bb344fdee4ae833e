-- A subscript is typed so exactly where it has not failed, has as many indices as parameters, and has the type that is asked for.
use Rattle.std.proofs.Common.{◌≡◌, ◌∙◌, ℕ, Bool, true, false, not, ◌&&◌, ◌==◌, List, [], length, Option, Some, None, cond, refl, ap}
use Rattle.std.proofs.lemmas.Bool.{eqb-true, eq-eqb}
use Rattle.sx_span.specs.declared.places.Node.{Node}
use Rattle.sx_typed.specs.declared.code.Expr.{Expr as TypedExpr}
use Rattle.sx_scope.specs.declared.declarations.Subscript.{Subscript}
use Rattle.sx_scope.specs.declared.stop.TypeKind.TheVariants as kind
use Rattle.sx_scope.specs.declared.walk.Asked.{Asked}
use Rattle.sx_scope.specs.declared.walk.Walk.{Walk}
use Rattle.sx_scope.specs.Verdict.{typed, depends, fault, unless_broken}
use Rattle.sx_scope.specs.Names.{agrees}
use Rattle.sx_scope.specs.Paths.{subscript_of}
use Rattle.sx_calls.specs.Calls.{broken_call, indexed, types_of}
use Rattle.sx_well_typed.proofs.Verdicts.{not-typed, unless_broken-typed, unless_broken-inverted}
use Rattle.sx_well_typed.proofs.CallRules.{broken_call-none, broken_call-all}

pub types_of-are : (count : ℕ) (s : Subscript) → s.failed ≡ false → length s.parameters ≡ count → types_of count (Some s) ≡ s.parameters
types_of-are count s f h =
    ap (λ c. cond (not c && (length s.parameters == count)) s.parameters []) f ∙ ap (λ c. cond c s.parameters []) (eq-eqb (length s.parameters) count h)

pub indexed-typed : (q : Asked) (n : Node) (site count : ℕ) (base : TypedExpr) (es : List TypedExpr) (s : Subscript) (w : Walk) → s.failed ≡ false → length s.parameters ≡ count → agrees q s.ty ≡ true →
    indexed q n site count base es (Some s) w ≡ typed (subscript_of n site s.ty base es s.accessors) w
indexed-typed q n site count base es s w f h g =
    let x : TypedExpr = subscript_of n site s.ty base es s.accessors in
    let b : Bool = length s.parameters == count in
    ap (λ c. cond c depends (unless_broken (broken_call q b s.ty) n (typed x)) w) f
    ∙ ap (λ c. unless_broken (broken_call q c s.ty) n (typed x) w) (eq-eqb (length s.parameters) count h)
    ∙ unless_broken-typed (broken_call q true s.ty) n (typed x) w (typed x w) (broken_call-none q s.ty g) refl

-- what is known of a subscript that is typed
abbrev pub IsIndexed : Asked → Node → ℕ → ℕ → TypedExpr → List TypedExpr → Option Subscript → Walk → TypedExpr → Walk → Type 0
IsIndexed q n site count base es o w t v = (s : Subscript) × (o ≡ Some s) × (s.failed ≡ false) × (length s.parameters ≡ count) × (agrees q s.ty ≡ true) × (typed (subscript_of n site s.ty base es s.accessors) w ≡ typed t v)

pub indexed-inverted : (q : Asked) (n : Node) (site count : ℕ) (base : TypedExpr) (es : List TypedExpr) (o : Option Subscript) (w : Walk) (t : TypedExpr) (v : Walk) → indexed q n site count base es o w ≡ typed t v → IsIndexed q n site count base es o w t v
indexed-inverted q n site count base es None w t v h = not-typed (IsIndexed q n site count base es None w t v) (fault {A = TypedExpr} kind.UnknownName n w) t v refl h
indexed-inverted q n site count base es (Some s) w t v h = by s.failed refl h
  where
    by : (b : Bool) → s.failed ≡ b → cond b depends (unless_broken (broken_call q (length s.parameters == count) s.ty) n (typed (subscript_of n site s.ty base es s.accessors))) w ≡ typed t v → IsIndexed q n site count base es (Some s) w t v
    by true f k = not-typed (IsIndexed q n site count base es (Some s) w t v) (depends w) t v refl k
    by false f k =
        let b = unless_broken-inverted (broken_call q (length s.parameters == count) s.ty) n (typed (subscript_of n site s.ty base es s.accessors)) w t v k in
        let a = broken_call-all q (length s.parameters == count) s.ty b.0 in
        (s, refl, f, eqb-true (length s.parameters) count a.1, a.0, b.1)
