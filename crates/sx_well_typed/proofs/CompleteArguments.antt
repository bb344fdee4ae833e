-- Arguments and calls: what is judged typed is derived, where this is so of their parts.
use Rattle.std.proofs.Common.{◌≡◌, ◌∙◌, ℕ, suc, arith, true, false, List, [], ◌∷◌, ◌++◌, map, length, Option, Some, None, refl, sym, ap, subst, true≢false}
use Rattle.sx_span.specs.declared.places.Node.{Node}
use Rattle.sx_tree.specs.declared.code.Argument.{Argument}
use Rattle.sx_tree.specs.declared.code.Closure.{Closure}
use Rattle.sx_tree.specs.declared.code.Expr.{Expr}
use Rattle.sx_types.specs.declared.types.Ty.{Ty}
use Rattle.sx_typed.specs.declared.code.Expr.{Expr as TypedExpr}
use Rattle.sx_scope.specs.declared.declarations.Declarations.{Declarations}
use Rattle.sx_scope.specs.declared.stop.TypeKind.TheVariants as kind
use Rattle.sx_scope.specs.declared.walk.Asked.{Asked}
use Rattle.sx_scope.specs.declared.walk.Asked.TheVariants as asked
use Rattle.sx_scope.specs.declared.walk.Callee.{Callee}
use Rattle.sx_scope.specs.declared.walk.Place.{Place}
use Rattle.sx_scope.specs.declared.walk.Use.TheVariants as uses
use Rattle.sx_scope.specs.declared.walk.Walk.{Walk}
use Rattle.sx_scope.specs.Verdict.{Verdict, typed, untold, fault, Judging, ◌▷◌, both, loosely, unless_broken}
use Rattle.sx_scope.specs.Walks.{node, advanced, numbered}
use Rattle.sx_calls.specs.declared.passed.Passed.{Passed}
use Rattle.sx_calls.specs.declared.passed.Pairing.{Pairing}
use Rattle.sx_calls.specs.declared.passed.Shape.{Shape}
use Rattle.sx_calls.specs.declared.passed.Slot.{Slot}
use Rattle.sx_calls.specs.declared.passed.Slot.TheVariants as slots
use Rattle.sx_calls.specs.Calls as calls
use Rattle.sx_calls.specs.Calls.{argument_added, argument_value, asked_in, use_in, is_loose, is_assignable, broken_in, call_value, callee_in, first_slot, index_added, index_for, loose, met_found, met_in, nothing_passed, other_slots, pairing, run_argument, run_arguments, run_call, run_indices, settled, shapes, some_value, with_argument, with_value}
use Rattle.sx_calls.specs.Parts.{JudgedArgument, JudgedExpr, trailing_shape}
use Rattle.sx_check_expr.specs.Arguments.{judged_arguments, shape_of, shapes_of}
use Rattle.sx_check_expr.specs.Judge as judge
use Rattle.sx_check_expr.specs.Judge.{callee_by, judged_closure, judged_expr}
use Rattle.sx_check_expr.proofs.Equations.{argument_is, shapes_are}
use Rattle.sx_well_typed.specs.Claims.{Claim}
use Rattle.sx_well_typed.specs.Rules.{Typed}
use Rattle.sx_well_typed.proofs.CallRules.{call-inverted}
use Rattle.sx_well_typed.proofs.Derives.{Any, Each, ArgumentDerives, ClosureDerives, ExprDerives}
use Rattle.sx_well_typed.proofs.Holds.{Holds}
use Rattle.sx_well_typed.proofs.Pairings.{Meet, is_blank, called-counted, pairing-meets}
use Rattle.sx_well_typed.proofs.Trees.{name-is}
use Rattle.sx_well_typed.proofs.Verdicts.{First, typed-as, not-typed, then-inverted, need-inverted, unless_broken-inverted, added-first, added-inverted}

-- ---- an argument for a slot
-- it is typed, it can be modified where it is to be, and it is written rightly
abbrev pub IsMet : Slot → Shape → Verdict TypedExpr → Option TypedExpr → Walk → Type 0
IsMet s a v o w = (t : TypedExpr) × (is_loose s ≡ false) × (v ≡ typed t w) × (is_assignable a t ≡ true) × (broken_in s a ≡ None) × (o ≡ Some t)

met-inverted : (s : Slot) (n : Node) (a : Shape) (v : Verdict TypedExpr) (o : Option TypedExpr) (w : Walk) → is_loose s ≡ false → met_found s n a v ▷ some_value ≡ typed o w → IsMet s a v o w
met-inverted s n a v o w l h =
    let (x, w₁, m, made) = then-inverted (met_found s n a v) some_value o w h in
    let (t, w₂, first, e) = then-inverted v (met_in s n a) x w₁ m in
    let c = need-inverted (is_assignable a t) kind.NotAssignable t.node (unless_broken (broken_in s a) n (typed t)) w₂ x w₁ e in
    let b = unless_broken-inverted (broken_in s a) n (typed t) w₂ x w₁ c.1 in
    typed-as (λ o w. IsMet s a v o w) (Some x) o w₁ w made (typed-as (λ x u. IsMet s a v (Some x) u) t x w₂ w₁ b.1 (t, l, first, c.0, b.0, refl))

failing-not : {A B : Type 0} (X : Type 0) (v : Verdict A) (f : A → Judging B) (b : B) (w : Walk) → ((a : A) (u : Walk) → f a u ≡ typed b w → X) → v ▷ f ≡ typed b w → X
failing-not X v f b w k h =
    let (a, u, i, j) = then-inverted v f b w h in
    k a u j

settled-inverted : (s : Slot) (n : Node) (a : Shape) (v : Verdict TypedExpr) (o : Option TypedExpr) (w : Walk) → is_blank s ≡ false → settled s n (met_found s n a v) ≡ typed o w → IsMet s a v o w
settled-inverted (slots.For t) n a v o w b h = met-inverted (slots.For t) n a v o w refl h
settled-inverted (slots.Property k t) n a v o w b h = met-inverted (slots.Property k t) n a v o w refl h
settled-inverted slots.Printed n a v o w b h = met-inverted slots.Printed n a v o w refl h
settled-inverted slots.Loose n a v o w b h = absurd (true≢false b)
settled-inverted (slots.Failing k) n a v o w b h =
    let s : Slot = slots.Failing k in
    failing-not (IsMet s a v o w) (loosely (met_found s n a v)) (loose s n) o w (λ x u e. not-typed (IsMet s a v o w) (fault {A = Option TypedExpr} k n u) o w refl e) h
settled-inverted slots.Unknown n a v o w b h =
    let s : Slot = slots.Unknown in
    failing-not (IsMet s a v o w) (loosely (met_found s n a v)) (loose s n) o w (λ x u e. not-typed (IsMet s a v o w) (untold u) o w refl e) h

-- one more argument is passed
abbrev pub Passes : Place → Slot → JudgedArgument → Passed → Walk → Passed → Walk → Type 0
Passes p s j a w b v = (t : TypedExpr) × (w₁ : Walk) × (is_loose s ≡ false) × (j.value.value p (asked_in s) (use_in s j.shape) (advanced 1 w) ≡ typed t w₁) × (is_assignable j.shape t ≡ true) × (broken_in s j.shape ≡ None) × (typed (with_value s j.shape a t) w₁ ≡ typed b v)

run_argument-inverted : (p : Place) (s : Slot) (j : JudgedArgument) (a : Passed) (w : Walk) (b : Passed) (v : Walk) → is_blank s ≡ false → run_argument p (typed a w) s j ≡ typed b v → Passes p s j a w b v
run_argument-inverted p s j a w b v n h =
    let (o, w₁, one, made) = added-inverted a w (numbered (argument_value p s j)) (argument_added s j.shape) b v h in
    let (t, l, first, c, e, same) = settled-inverted s (node w.next) j.shape (j.value.value p (asked_in s) (use_in s j.shape) (advanced 1 w)) o w₁ n one in
    (t, w₁, l, first, c, e, ap (λ o. typed (with_argument s j.shape a o) w₁) (sym same) ∙ made)

run_arguments-first : (p : Place) (r : Verdict Passed) (ss : List Slot) (js : List JudgedArgument) (b : Passed) (v : Walk) → run_arguments p r ss js ≡ typed b v → First r
run_arguments-first p r ss [] b v h = (b, v, h)
run_arguments-first p r ss (j ∷ js) b v h =
    let (a, w, one) = run_arguments-first p (run_argument p r (first_slot ss) j) (other_slots ss) js b v h in
    added-first r (numbered (argument_value p (first_slot ss) j)) (argument_added (first_slot ss) j.shape) a w one

module _ (d : Declarations) where
  pub arguments-complete : (as_ : List Argument) (c : Option Closure) → Each (ArgumentDerives d) as_ → Any (ClosureDerives d) c → (p : Place) (ss : List Slot) (a : Passed) (w : Walk) (b : Passed) (v : Walk) → Meet ss (shapes_of as_ c) →
      Holds d (Claim.arguments as_ c p ss a w b v) → Typed d (Claim.arguments as_ c p ss a w b v)
  arguments-complete [] None k i p ss a w b v m h = typed-as (λ b v. Typed d (Claim.arguments [] None p ss a w b v)) a b w v h (Typed.arguments_end p ss a w)
  arguments-complete [] (Some c) k i p [] a w b v m h = absurd m
  arguments-complete [] (Some c) k i p (s ∷ ss) a w b v m h =
      let j : JudgedArgument = record { shape = trailing_shape; value = judged_closure d c } in
      let (t, w₁, l, first, x, e, made) = run_argument-inverted p s j a w b v m.0 h in
      typed-as (λ b v. Typed d (Claim.arguments [] (Some c) p (s ∷ ss) a w b v)) (with_value s trailing_shape a t) b w₁ v made
      (Typed.arguments_closure c p s ss a w w₁ t l (i p (asked_in s) (use_in s trailing_shape) (advanced 1 w) t w₁ first) x e)
  arguments-complete (y ∷ as_) c k i p [] a w b v m h = absurd m
  arguments-complete (y ∷ as_) c k i p (s ∷ ss) a w b v m h =
      let j : JudgedArgument = record { shape = shape_of y; value = judged_expr d y.value } in
      let js : List JudgedArgument = judged_arguments d as_ c in
      let run : run_arguments p (run_argument p (typed a w) s j) ss js ≡ typed b v = ap (λ (i : JudgedArgument). run_arguments p (run_argument p (typed a w) s i) ss js) (sym (argument_is d y)) ∙ h in
      let (a', w', one) = run_arguments-first p (run_argument p (typed a w) s j) ss js b v run in
      let (t, w₁, l, first, x, e, made) = run_argument-inverted p s j a w a' w' m.0 one in
      Typed.arguments_more y as_ c p s ss a b w w₁ v t l (k.0 p (asked_in s) (use_in s (shape_of y)) (advanced 1 w) t w₁ first) x e
      (arguments-complete as_ c k.1 i p ss (with_value s (shape_of y) a t) w₁ b v m.1 (ap (λ r. run_arguments p r ss js) (made ∙ sym one) ∙ run))

  -- ---- calls
  -- what is called is typed
  pub call-first : (p : Place) (q : Asked) (n : Node) (site : ℕ) (args : List JudgedArgument) (r : Verdict Callee) (t : TypedExpr) (v : Walk) → call_value d p q n site args r ≡ typed t v → First r
  call-first p q n site args r t v h =
      let pairs : Pairing = pairing d (callee_in d r) (shapes d args) in
      added-first r (λ w. run_arguments p (typed nothing_passed w) pairs.slots args) (calls.called d q n site pairs.counted) t v h

  pub call-complete : (as_ : List Argument) (c : Option Closure) → Each (ArgumentDerives d) as_ → Any (ClosureDerives d) c → (p : Place) (q : Asked) (n : Node) (site : ℕ) (f : Callee) (w : Walk) (t : TypedExpr) (v : Walk) →
      Holds d (Claim.call as_ c p q n site f w t v) → Typed d (Claim.call as_ c p q n site f w t v)
  call-complete as_ c k i p q n site f w t v h =
      let args : List JudgedArgument = judged_arguments d as_ c in
      let pairs : Pairing = pairing d (Some f) (shapes_of as_ c) in
      let m : Judging Passed = λ w. run_arguments p (typed nothing_passed w) pairs.slots args in
      let run : both (typed f w) m ▷ calls.called d q n site pairs.counted ≡ typed t v = ap (λ ss. run_call d p q n site args (typed f w) (pairing d (Some f) ss)) (sym (shapes_are d as_ c)) ∙ h in
      let (a, w₁, passed, made) = added-inverted f w m (calls.called d q n site pairs.counted) t v run in
      let all : pairs.counted ≡ true = called-counted d q n site pairs.counted f a w₁ t v made in
      let is = call-inverted d q n site f a w₁ t v (ap (λ b. calls.called d q n site b (f, a) w₁) (sym all) ∙ made) in
      subst (λ v. Typed d (Claim.call as_ c p q n site f w t v)) is.1
      (Typed.a_call as_ c p q n site f a w w₁ t all (arguments-complete as_ c k i p pairs.slots nothing_passed w a w₁ (pairing-meets d f (shapes_of as_ c) all) passed) is.0)

  -- what stands before arguments
  called-by : (e : Expr) → ExprDerives d e → (p : Place) (site : ℕ) (w : Walk) (f : Callee) (v : Walk) (o : Option ℕ) → (judged_expr d e).name ≡ o → callee_by d p site (judged_expr d e) o w ≡ typed f v → Typed d (Claim.called e p site w f v)
  called-by e k p site w f v (Some x) n h = Typed.called_by_name e x p site w v f (sym (name-is d e) ∙ n) h
  called-by e k p site w f v None n h =
      let (x, w₁, first, made) = then-inverted ((judged_expr d e).value p asked.Nothing uses.Kept w) judge.called_value f v h in
      Typed.called_value e p site w w₁ v x f (sym (name-is d e) ∙ n) (k p asked.Nothing uses.Kept w x w₁ first) made

  pub called-complete : (e : Expr) → ExprDerives d e → (p : Place) (site : ℕ) (w : Walk) (f : Callee) (v : Walk) → Holds d (Claim.called e p site w f v) → Typed d (Claim.called e p site w f v)
  called-complete e k p site w f v h = called-by e k p site w f v (judged_expr d e).name refl h

  -- ---- indices
  pub run_indices-first : (p : Place) (r : Verdict (List TypedExpr)) (ts : List Ty) (js : List JudgedExpr) (es : List TypedExpr) (v : Walk) → run_indices d p r ts js ≡ typed es v → First r
  run_indices-first p r ts [] es v h = (es, v, h)
  run_indices-first p r ts (j ∷ js) es v h =
      let m : Judging (Option TypedExpr) = index_for d p (calls.first_type d ts) j in
      let (a, w, one) = run_indices-first p (both r m ▷ index_added d) (calls.other_types d ts) js es v h in
      added-first r m (index_added d) a w one

  pub indices-complete : (is : List Expr) → Each (ExprDerives d) is → (p : Place) (ts : List Ty) (before : List TypedExpr) (w : Walk) (es : List TypedExpr) (v : Walk) → length ts ≡ length is →
      Holds d (Claim.indices is p ts before w es v) → Typed d (Claim.indices is p ts before w es v)
  indices-complete [] k p [] before w es v m h = typed-as (λ es v. Typed d (Claim.indices [] p [] before w es v)) before es w v h (Typed.indices_end p before w)
  indices-complete [] k p (t ∷ ts) before w es v m h = absurd (more-not m)
    where
      more-not : {n : ℕ} → suc n ≡ 0 → ⊥
      more-not e = omega (arith, e)
  indices-complete (i ∷ is) k p [] before w es v m h = absurd (none-not m)
    where
      none-not : {n : ℕ} → 0 ≡ suc n → ⊥
      none-not e = omega (arith, e)
  indices-complete (i ∷ is) k p (t ∷ ts) before w es v m h =
      let js : List JudgedExpr = map (judged_expr d) is in
      let one : Judging (Option TypedExpr) = λ w. (judged_expr d i).value p (asked.Type t) uses.Kept w ▷ some_value in
      let (a, w₂, first) = run_indices-first p (both (typed before w) one ▷ index_added d) ts js es v h in
      let (o, w₁, second, made) = added-inverted before w one (index_added d) a w₂ first in
      let (x, w₃, third, some) = then-inverted ((judged_expr d i).value p (asked.Type t) uses.Kept w) some_value o w₁ second in
      let step : index_added d (before, Some x) w₃ ≡ typed a w₂ = typed-as (λ o u. index_added d (before, o) u ≡ typed a w₂) o (Some x) w₁ w₃ (sym some) made in
      Typed.indices_more i is p t ts before es x w w₃ v (k.0 p (asked.Type t) uses.Kept w x w₃ third)
      (indices-complete is k.1 p ts (before ++ x ∷ []) w₃ es v (omega (arith, m)) (ap (λ r. run_indices d p r ts js) (step ∙ sym first) ∙ h))
