-- Where each argument is passed, a call is typed so exactly where the rules of calls say it.
use Rattle.std.proofs.Common.{◌≡◌, ◌∙◌, ℕ, Bool, true, false, not, ◌||◌, Option, Some, None, slice_get, cond, refl, sym, ap, true≢false}
use Rattle.sx_span.specs.declared.places.Node.{Node}
use Rattle.sx_types.specs.declared.types.FunctionType.{FunctionType}
use Rattle.sx_types.specs.declared.types.Ty.{Ty}
use Rattle.sx_types.specs.declared.types.Ty.TheVariants as ty
use Rattle.sx_typed.specs.declared.code.Expr.{Expr as TypedExpr}
use Rattle.sx_typed.specs.declared.code.Form.{Form}
use Rattle.sx_typed.specs.declared.code.Form.TheVariants as typed_forms
use Rattle.sx_scope.specs.declared.declarations.Declarations.{Declarations}
use Rattle.sx_scope.specs.declared.declarations.DeclaredType.{DeclaredType}
use Rattle.sx_scope.specs.declared.declarations.Signature.{Signature}
use Rattle.sx_scope.specs.declared.stop.TypeKind.{TypeKind}
use Rattle.sx_scope.specs.declared.stop.TypeKind.TheVariants as kind
use Rattle.sx_scope.specs.declared.walk.Asked.{Asked}
use Rattle.sx_scope.specs.declared.walk.Callee.{Callee}
use Rattle.sx_scope.specs.declared.walk.Callee.TheVariants as callee
use Rattle.sx_scope.specs.declared.walk.Walk.{Walk}
use Rattle.sx_scope.specs.Verdict.{typed, depends, fault}
use Rattle.sx_scope.specs.Names.{agrees, declared_type, function}
use Rattle.sx_scope.specs.Paths.{an_expr, modifiable}
use Rattle.sx_calls.specs.declared.passed.Passed.{Passed}
use Rattle.sx_calls.specs.Calls.{broken_call, broken_method, call_expr, called, first_broken, function_called, has_failed, initialised, method_called, method_expr, print_called, value_called}
use Rattle.sx_well_typed.specs.CallRules.{CallIs}
use Rattle.sx_well_typed.proofs.Verdicts.{typed-as, not-typed, need-inverted, unless_broken-typed, unless_broken-inverted}

-- ---- no condition is broken
is_none : Option TypeKind → Bool
is_none None = true
is_none (Some k) = false

some-not : (X : Type 0) (k : TypeKind) → Some k ≡ None → X
unfolding is_none
some-not X k h = absurd (true≢false (sym (ap is_none h)))

unless-none : (b : Bool) (k : TypeKind) → cond b None (Some k) ≡ None → b ≡ true
unless-none true k h = refl
unless-none false k h = some-not (false ≡ true) k h

pub broken_call-none : (q : Asked) (t : Ty) → agrees q t ≡ true → broken_call q true t ≡ None
broken_call-none q t h = ap (λ b. cond b None (Some kind.Mismatch)) h

-- and then it has the type and the arguments
pub broken_call-all : (q : Asked) (counted : Bool) (t : Ty) → broken_call q counted t ≡ None → (agrees q t ≡ true) × (counted ≡ true)
broken_call-all q counted t h = by (agrees q t) counted h
  where
    by : (a c : Bool) → cond a (cond c None (Some kind.ArgumentCount)) (Some kind.Mismatch) ≡ None → (a ≡ true) × (c ≡ true)
    by true c k = (refl, unless-none c kind.ArgumentCount k)
    by false c k = some-not ((false ≡ true) × (c ≡ true)) kind.Mismatch k

call_expr-typed : (q : Asked) (n : Node) (site : ℕ) (t : Ty) (f : Form) (w : Walk) → agrees q t ≡ true → call_expr q n site true t f w ≡ typed (an_expr n site t f) w
call_expr-typed q n site t f w h = unless_broken-typed (broken_call q true t) n (typed (an_expr n site t f)) w (typed (an_expr n site t f) w) (broken_call-none q t h) refl

call_expr-inverted : (q : Asked) (n : Node) (site : ℕ) (t : Ty) (f : Form) (w : Walk) (x : TypedExpr) (v : Walk) → call_expr q n site true t f w ≡ typed x v → (agrees q t ≡ true) × (typed (an_expr n site t f) w ≡ typed x v)
call_expr-inverted q n site t f w x v h =
    let b = unless_broken-inverted (broken_call q true t) n (typed (an_expr n site t f)) w x v h in
    (unless-none (agrees q t) kind.Mismatch b.0, b.1)

first_broken-both : (a b : Option TypeKind) → first_broken a b ≡ None → (a ≡ None) × (b ≡ None)
first_broken-both None b h = (refl, h)
first_broken-both (Some k) b h = some-not ((Some k ≡ None) × (b ≡ None)) k h

module _ (d : Declarations) (q : Asked) (n : Node) (site : ℕ) where
  -- ---- what the rules say is typed
  pub call-typed : (f : Callee) (a : Passed) (t : TypedExpr) (w : Walk) → CallIs d q n site f a t → called d q n site true (f, a) w ≡ typed t w
  call-typed _ _ _ w (CallIs.of_function k s a h g) = ap (λ o. function_called q n site true a.arguments o w) h ∙ call_expr-typed q n site s.result (typed_forms.Call s.node a.arguments) w g
  call-typed _ _ _ w (CallIs.of_method k base s a h g m) =
      let x : TypedExpr = method_expr n site base a.arguments s in
      let none : broken_method q true base s ≡ None =
      ap (λ o. first_broken o (cond (not s.mutating || modifiable base) None (Some kind.MutatingOnValue))) (broken_call-none q s.result g) ∙ ap (λ b. cond b None (Some kind.MutatingOnValue)) m in
      ap (λ o. method_called q n site true base a.arguments o w) h ∙ unless_broken-typed (broken_method q true base s) n (typed x) w (typed x w) none refl
  call-typed _ _ _ w (CallIs.of_value e k f a h g) = ap (λ o. value_called q n site true e a.arguments o w) h ∙ call_expr-typed q n site f.result (typed_forms.CallValue e a.arguments) w g
  call-typed _ _ _ w (CallIs.of_initialiser t s a h f g) =
      ap (λ o. initialised d q n site true t a.given o w) h ∙ ap (λ b. cond b depends (call_expr q n site true t (typed_forms.Initialise t a.given)) w) f
      ∙ call_expr-typed q n site t (typed_forms.Initialise t a.given) w g
  call-typed _ _ _ w (CallIs.of_print x a h g) = ap (λ o. print_called q n site true o w) h ∙ call_expr-typed q n site ty.Void (typed_forms.Print x) w g

  -- ---- and what is typed they say
  abbrev pub IsCall : Callee → Passed → Walk → TypedExpr → Walk → Type 0
  IsCall f a w t v = CallIs d q n site f a t × (w ≡ v)

  is-call : (f : Callee) (a : Passed) (w : Walk) (x t : TypedExpr) (v : Walk) → CallIs d q n site f a x → typed x w ≡ typed t v → IsCall f a w t v
  is-call f a w x t v i h = typed-as (λ t v. IsCall f a w t v) x t w v h (i, refl)

  function-inverted : (k : ℕ) (a : Passed) (w : Walk) (t : TypedExpr) (v : Walk) (o : Option Signature) → function d k ≡ o → function_called q n site true a.arguments o w ≡ typed t v → IsCall (callee.Function k) a w t v
  function-inverted k a w t v None e h = not-typed (IsCall (callee.Function k) a w t v) (depends w) t v refl h
  function-inverted k a w t v (Some s) e h =
      let f : Form = typed_forms.Call s.node a.arguments in
      let c = call_expr-inverted q n site s.result f w t v h in
      is-call (callee.Function k) a w (an_expr n site s.result f) t v (CallIs.of_function k s a e c.0) c.1

  method-inverted : (k : ℕ) (base : TypedExpr) (a : Passed) (w : Walk) (t : TypedExpr) (v : Walk) (o : Option Signature) → function d k ≡ o → method_called q n site true base a.arguments o w ≡ typed t v → IsCall (callee.Method k base) a w t v
  method-inverted k base a w t v None e h = not-typed (IsCall (callee.Method k base) a w t v) (depends w) t v refl h
  method-inverted k base a w t v (Some s) e h =
      let x : TypedExpr = method_expr n site base a.arguments s in
      let b = unless_broken-inverted (broken_method q true base s) n (typed x) w t v h in
      let c = first_broken-both (broken_call q true s.result) (cond (not s.mutating || modifiable base) None (Some kind.MutatingOnValue)) b.0 in
      is-call (callee.Method k base) a w x t v
      (CallIs.of_method k base s a e (unless-none (agrees q s.result) kind.Mismatch c.0) (unless-none (not s.mutating || modifiable base) kind.MutatingOnValue c.1)) b.1

  value-inverted : (y : TypedExpr) (k : ℕ) (a : Passed) (w : Walk) (t : TypedExpr) (v : Walk) (o : Option FunctionType) → slice_get d.types.functions k ≡ o → value_called q n site true y a.arguments o w ≡ typed t v → IsCall (callee.Value y k) a w t v
  value-inverted y k a w t v None e h = not-typed (IsCall (callee.Value y k) a w t v) (depends w) t v refl h
  value-inverted y k a w t v (Some g) e h =
      let f : Form = typed_forms.CallValue y a.arguments in
      let c = call_expr-inverted q n site g.result f w t v h in
      is-call (callee.Value y k) a w (an_expr n site g.result f) t v (CallIs.of_value y k g a e c.0) c.1

  made-inverted : (y : Ty) (s : DeclaredType) (a : Passed) (w : Walk) (t : TypedExpr) (v : Walk) (b : Bool) → declared_type d y ≡ Some s → has_failed d s ≡ b →
      cond b depends (call_expr q n site true y (typed_forms.Initialise y a.given)) w ≡ typed t v → IsCall (callee.Initialiser y) a w t v
  made-inverted y s a w t v true e f h = not-typed (IsCall (callee.Initialiser y) a w t v) (depends w) t v refl h
  made-inverted y s a w t v false e f h =
      let g : Form = typed_forms.Initialise y a.given in
      let c = call_expr-inverted q n site y g w t v h in
      is-call (callee.Initialiser y) a w (an_expr n site y g) t v (CallIs.of_initialiser y s a e f c.0) c.1

  initialiser-inverted : (y : Ty) (a : Passed) (w : Walk) (t : TypedExpr) (v : Walk) (o : Option DeclaredType) → declared_type d y ≡ o → initialised d q n site true y a.given o w ≡ typed t v → IsCall (callee.Initialiser y) a w t v
  initialiser-inverted y a w t v None e h = not-typed (IsCall (callee.Initialiser y) a w t v) (depends w) t v refl h
  initialiser-inverted y a w t v (Some s) e h = made-inverted y s a w t v (has_failed d s) e refl h

  print-inverted : (a : Passed) (w : Walk) (t : TypedExpr) (v : Walk) (o : Option TypedExpr) → a.printed ≡ o → print_called q n site true o w ≡ typed t v → IsCall callee.Print a w t v
  print-inverted a w t v None e h =
      let b = need-inverted (agrees q ty.Void) kind.Mismatch n (fault kind.ArgumentCount n) w t v h in
      not-typed (IsCall callee.Print a w t v) (fault {A = TypedExpr} kind.ArgumentCount n w) t v refl b.1
  print-inverted a w t v (Some x) e h =
      let f : Form = typed_forms.Print x in
      let c = call_expr-inverted q n site ty.Void f w t v h in
      is-call callee.Print a w (an_expr n site ty.Void f) t v (CallIs.of_print x a e c.0) c.1

  pub call-inverted : (f : Callee) (a : Passed) (w : Walk) (t : TypedExpr) (v : Walk) → called d q n site true (f, a) w ≡ typed t v → IsCall f a w t v
  call-inverted (callee.Function k) a w t v h = function-inverted k a w t v (function d k) refl h
  call-inverted (callee.Method k base) a w t v h = method-inverted k base a w t v (function d k) refl h
  call-inverted (callee.Value y k) a w t v h = value-inverted y k a w t v (slice_get d.types.functions k) refl h
  call-inverted (callee.Initialiser y) a w t v h = initialiser-inverted y a w t v (declared_type d y) refl h
  call-inverted callee.Print a w t v h = print-inverted a w t v a.printed refl h
