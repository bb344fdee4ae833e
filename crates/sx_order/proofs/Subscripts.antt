-- Subscripts: each index takes the nodes of its value.
use Rattle.std.proofs.Common.{◌≡◌, ℕ, ◌+◌, ◌≤◌, ◌==◌, List, [], ◌∷◌, Option, Some, None, length, arith}
use Rattle.sx_span.specs.declared.places.Node.{Node}
use Rattle.sx_types.specs.declared.types.Ty.{Ty}
use Rattle.sx_typed.specs.declared.code.Expr.{Expr}
use Rattle.sx_scope.specs.declared.stop.TypeKind.TheVariants as kind
use Rattle.sx_scope.specs.declared.declarations.Declarations.{Declarations}
use Rattle.sx_scope.specs.declared.declarations.Subscript.{Subscript}
use Rattle.sx_scope.specs.declared.walk.Asked.{Asked}
use Rattle.sx_scope.specs.declared.walk.Asked.TheVariants as asked
use Rattle.sx_scope.specs.declared.walk.Place.{Place}
use Rattle.sx_scope.specs.declared.walk.Use.TheVariants as uses
use Rattle.sx_scope.specs.declared.walk.Walk.{Walk}
use Rattle.sx_scope.specs.Verdict.{Verdict, typed, depends, ◌▷◌, both, both_by, loosely, unless_broken}
use Rattle.sx_scope.specs.Paths.{subscript_of}
use Rattle.sx_calls.specs.Parts.{JudgedExpr}
use Rattle.sx_calls.specs.Calls.{some_value, broken_call, indexed, subscript, types_by, first_type, other_types, no_value, index_for, with_index, index_added, run_indices, indexed_value, index_value}
use Rattle.sx_order.specs.Order.{Lies, Start, since, Spans, Stays, Takes, Anything, Anywhere, IsAt}
use Rattle.sx_order.specs.Parts.{SpansExpr, SpanExprs}
use Rattle.sx_order.proofs.Spans.{▷-spans, both_by-spans, run-spans, spans-to, fault-stays, typed-first, typed-stays, depends-stays, unless_broken-stays, cond-stays, loosely-spans}
use Rattle.sx_order.proofs.Values.{subscript_of-at}

pub indexed-stays : {lo hi : ℕ} (q : Asked) (n : Node) (site count : ℕ) (base : Expr) (es : List Expr) (o : Option Subscript) → Lies lo hi n → Stays lo hi (IsAt n) (indexed q n site count base es o)
indexed-stays q n site count base es None i = fault-stays kind.UnknownName n i
indexed-stays q n site count base es (Some s) i =
    let e : Expr = subscript_of n site s.ty base es s.accessors in
    cond-stays s.failed depends (unless_broken (broken_call q (length s.parameters == count) s.ty) n (typed e)) depends-stays
    (unless_broken-stays (broken_call q (length s.parameters == count) s.ty) n (typed e) i (typed-stays e (subscript_of-at n site s.ty base es s.accessors)))

module _ (d : Declarations) where
  pub index_for-takes : (p : Place) (o : Option Ty) (i : JudgedExpr) (k : ℕ) → SpansExpr k i → Takes k Anywhere (index_for d p o i)
  index_for-takes p None i k t lo w e =
      let v : Verdict Expr = i.value p asked.Unknown uses.Kept w in
      ▷-spans (loosely v) (no_value d) (loosely-spans v (t.takes p asked.Unknown uses.Kept lo w e)) (λ u _. typed-stays None tt)
  index_for-takes p (Some t) i k h lo w e =
      ▷-spans (i.value p (asked.Type t) uses.Kept w) some_value (h.takes p (asked.Type t) uses.Kept lo w e) (λ x _. typed-stays (Some x) tt)

  pub index_added-stays : {lo hi : ℕ} (x : List Expr × Option Expr) → Stays lo hi Anything (index_added d x)
  index_added-stays x = typed-stays (with_index d x.0 x.1) tt

  pub run_indices-spans : {old : Start} (p : Place) (is : List JudgedExpr) (ts : List Ty) (n lo mid hi : ℕ) (v : Verdict (List Expr)) → lo ≤ mid → hi ≡ n + mid → Spans old lo mid Anything v → SpanExprs n is → Spans old lo hi Anything (run_indices d p v ts is)
  run_indices-spans p [] ts n lo mid hi v l s h t = spans-to v (omega (arith, s, t)) h
  run_indices-spans {old = old} p (i ∷ is) ts n lo mid hi v l s h t =
      let (k, j, e, first, others) = t in
      let m = index_for d p (first_type d ts) i in
      let one : Spans old lo (k + mid) Anything (both v m ▷ index_added d) =
      run-spans Anything v m (index_added d) l (omega arith) h (index_for-takes p (first_type d ts) i k first mid) (λ x _. index_added-stays x) in
      run_indices-spans p is (other_types d ts) j lo (k + mid) hi (both v m ▷ index_added d) (omega arith) (omega (arith, s, e)) one others

  -- a subscript takes the nodes of its indices, behind those of its base
  pub index_value-spans : {old : Start} (p : Place) (q : Asked) (n : Node) (site : ℕ) (is : List JudgedExpr) (k lo mid hi : ℕ) (v : Verdict Expr) → lo ≤ mid → hi ≡ k + mid → Lies lo hi n →
      Spans old lo mid Anything v → SpanExprs k is → Spans old lo hi (IsAt n) (index_value d p q n site is v)
  index_value-spans p q n site is k lo mid hi v a s i h t =
      let indices : (o : Option Expr) (w : Walk) → w.next ≡ mid → Spans (since w) mid hi Anything (run_indices d p (typed [] w) (types_by d (length is) o) is) =
      λ o w e. run_indices-spans p is (types_by d (length is) o) k mid mid hi (typed [] w) (omega arith) s (typed-first [] w e tt) t in
      ▷-spans (both_by v (λ o w. run_indices d p (typed [] w) (types_by d (length is) o) is)) (indexed_value d q n site (length is))
      (both_by-spans v (λ o w. run_indices d p (typed [] w) (types_by d (length is) o) is) a (omega (arith, s)) h indices)
      (λ x _. indexed-stays q n site (length is) x.0 x.1 (subscript d x.0.ty) i)
