-- An operand with parts behind it: the nodes of the parts that start at the operand, and then those of the operand and in the parts.
use Rattle.std.proofs.Common.{◌≡◌, ℕ, suc, ◌+◌, ◌≤◌, Bool, false, List, [], ◌∷◌, ◌++◌, Option, Some, None, refl, sym, arith}
use Rattle.sx_typed.specs.declared.code.Expr.{Expr}
use Rattle.sx_scope.specs.declared.declarations.Declarations.{Declarations}
use Rattle.sx_scope.specs.declared.walk.Asked.{Asked}
use Rattle.sx_scope.specs.declared.walk.Asked.TheVariants as asked
use Rattle.sx_scope.specs.declared.walk.Callee.{Callee}
use Rattle.sx_scope.specs.declared.walk.Place.{Place}
use Rattle.sx_scope.specs.declared.walk.Use.{Use}
use Rattle.sx_scope.specs.declared.walk.Use.TheVariants as uses
use Rattle.sx_scope.specs.declared.walk.Walk.{Walk}
use Rattle.sx_scope.specs.Verdict.{Verdict, ◌▷◌}
use Rattle.sx_scope.specs.Walks.{node}
use Rattle.sx_scope.specs.Names.{called_member, called_name, member_value}
use Rattle.sx_calls.specs.Parts.{JudgedExpr, JudgedArgument, JudgedPart, trailing, own_nodes, asked_before}
use Rattle.sx_calls.specs.Calls.{call_value, index_value}
use Rattle.sx_check_expr.specs.Judge.{called_value, callee_by, callee, run_parts, run_first, postfix_value}
use Rattle.sx_order.specs.Order.{Lies, Start, since, Spans, Takes, Anything, Anywhere, Within, IsAt}
use Rattle.sx_order.specs.Parts.{SpansExpr, SpanArguments, SpanExprs, SpanParts}
use Rattle.sx_order.proofs.Names.{member_value-stays}
use Rattle.sx_order.proofs.Callees.{callable-stays, called_member-stays, called_name-stays}
use Rattle.sx_order.proofs.Arguments.{append-span, trailing-span}
use Rattle.sx_order.proofs.Calls.{call_value-spans}
use Rattle.sx_order.proofs.Subscripts.{index_value-spans}
use Rattle.sx_order.proofs.Spans.{▷-spans, numbered_many-takes, leaf-takes, takes-as, at-within, wider, earlier, anything}
use Rattle.sx_order_code.specs.Tied.{IsOneIf}

-- what is called fails where it stands
pub called_value-spans : {old : Start} {lo hi : ℕ} (v : Verdict Expr) → Spans old lo hi (Within lo hi) v → Spans old lo hi Anything (v ▷ called_value)
called_value-spans v h = ▷-spans v called_value h (λ e i. callable-stays e.node e i)

module _ (d : Declarations) where
  -- a call at node n, behind what is called
  pub call_at-spans : {old : Start} (p : Place) (q : Asked) (n site : ℕ) (as_ : List JudgedArgument) (k lo mid : ℕ) (v : Verdict Callee) → lo ≤ n → suc n ≤ mid → Spans old lo mid Anything v → SpanArguments k as_ →
      Spans old lo (k + mid) (Within lo (k + mid)) (call_value d p q (node n) site as_ v)
  call_at-spans p q n site as_ k lo mid v a b h t =
      let l : Lies lo (k + mid) (node n) = (a, omega (arith, b)) in
      at-within (node n) (call_value d p q (node n) site as_ v) l (call_value-spans d p q (node n) site as_ k lo mid (k + mid) v (omega (arith, a, b)) refl l h t)

  -- a member that is called: the call is node n, and the member the node behind it
  pub method-spans : {old : Start} (p : Place) (q : Asked) (n site : ℕ) (this : Bool) (x : ℕ) (as_ : List JudgedArgument) (k lo mid : ℕ) (v : Verdict Expr) → lo ≤ n → 2 + n ≤ mid → Spans old lo mid (Within lo mid) v → SpanArguments k as_ →
      Spans old lo (k + mid) (Within lo (k + mid)) (call_value d p q (node n) site as_ (v ▷ called_member d p (node (1 + n)) site this x))
  method-spans {old = old} p q n site this x as_ k lo mid v a b h t =
      let called : Spans old lo mid Anything (v ▷ called_member d p (node (1 + n)) site this x) =
      ▷-spans v (called_member d p (node (1 + n)) site this x) h (λ e _. called_member-stays d p (node (1 + n)) site this x e (omega (arith, a), omega (arith, b))) in
      call_at-spans p q n site as_ k lo mid (v ▷ called_member d p (node (1 + n)) site this x) a (omega (arith, b)) called t

  pub member-spans : {old : Start} (p : Place) (q : Asked) (n site : ℕ) (this : Bool) (x lo mid : ℕ) (v : Verdict Expr) → lo ≤ n → suc n ≤ mid → Spans old lo mid (Within lo mid) v → Spans old lo mid (Within lo mid) (v ▷ member_value d p q (node n) site this x)
  member-spans p q n site this x lo mid v a b h =
      let l : Lies lo mid (node n) = (a, omega (arith, b)) in
      at-within (node n) (v ▷ member_value d p q (node n) site this x) l (▷-spans {R = IsAt (node n)} v (member_value d p q (node n) site this x) h (λ e _. member_value-stays d p q (node n) site this x e l))

  pub index-spans : {old : Start} (p : Place) (q : Asked) (n site : ℕ) (is : List JudgedExpr) (k lo mid : ℕ) (v : Verdict Expr) → lo ≤ n → suc n ≤ mid → Spans old lo mid (Within lo mid) v → SpanExprs k is →
      Spans old lo (k + mid) (Within lo (k + mid)) (index_value d p q (node n) site is v)
  index-spans p q n site is k lo mid v a b h t =
      let l : Lies lo (k + mid) (node n) = (a, omega (arith, b)) in
      at-within (node n) (index_value d p q (node n) site is v) l (index_value-spans d p q (node n) site is k lo mid (k + mid) v (omega (arith, a, b)) refl l (anything v h) t)

  -- the nodes that start at the operand come first, from `start` on
  pub run_parts-spans : {old : Start} (p : Place) (q : Asked) (start site : ℕ) (this : Bool) (ps : List JudgedPart) (n lo mid hi : ℕ) (v : Verdict Expr) → lo ≤ start → own_nodes ps + start ≤ mid → hi ≡ n + mid →
      Spans old lo mid (Within lo mid) v → SpanParts n ps → Spans old lo hi (Within lo hi) (run_parts d p q start site this v ps)
  run_parts-spans p q start site this [] n lo mid hi v a b s h t = wider lo hi v (omega arith) (omega (arith, s, t)) h
  run_parts-spans p q start site this (JudgedPart.Member x (Some c) ∷ ps) n lo mid hi v a b s h t =
      let (k, j, e, first, others) = t in
      let here : ℕ = own_nodes ps + start in
      let u : Verdict Expr = call_value d p (asked_before ps q) (node here) site (trailing (Some c)) (v ▷ called_member d p (node (1 + here)) site this x) in
      run_parts-spans p q start site false ps j lo (k + mid) hi u a (omega (arith, b)) (omega (arith, s, e))
      (method-spans p (asked_before ps q) here site this x (trailing (Some c)) k lo mid v (omega (arith, a)) (omega (arith, b)) h (trailing-span (Some c) k first)) others
  run_parts-spans p q start site this (JudgedPart.Member x None ∷ []) n lo mid hi v a b s h t =
      let (k, j, e, first, others) = t in
      wider lo hi (v ▷ member_value d p q (node (0 + start)) site this x) (omega arith) (omega (arith, s, e, first, others))
      (member-spans p q (0 + start) site this x lo mid v (omega (arith, a)) (omega (arith, b)) h)
  run_parts-spans p q start site this (JudgedPart.Member x None ∷ JudgedPart.Member y c ∷ ps) n lo mid hi v a b s h t =
      let (k, j, e, first, others) = t in
      let here : ℕ = own_nodes (JudgedPart.Member y c ∷ ps) + start in
      run_parts-spans p q start site false (JudgedPart.Member y c ∷ ps) j lo mid hi (v ▷ member_value d p asked.Nothing (node here) site this x) a (omega (arith, b)) (omega (arith, s, e, first))
      (member-spans p asked.Nothing here site this x lo mid v (omega (arith, a)) (omega (arith, b)) h) others
  run_parts-spans p q start site this (JudgedPart.Member x None ∷ JudgedPart.Index is ∷ ps) n lo mid hi v a b s h t =
      let (k, j, e, first, others) = t in
      let here : ℕ = own_nodes (JudgedPart.Index is ∷ ps) + start in
      run_parts-spans p q start site false (JudgedPart.Index is ∷ ps) j lo mid hi (v ▷ member_value d p asked.Nothing (node here) site this x) a (omega (arith, b)) (omega (arith, s, e, first))
      (member-spans p asked.Nothing here site this x lo mid v (omega (arith, a)) (omega (arith, b)) h) others
  run_parts-spans p q start site this (JudgedPart.Member x None ∷ JudgedPart.Call as_ c ∷ ps) n lo mid hi v a b s h t =
      let (k, j, e, first, others) = t in
      let (k', j', e', call, behind) = others in
      let (m, r, sum, args, closure) = call in
      let here : ℕ = own_nodes ps + start in
      let u : Verdict Expr = call_value d p (asked_before ps q) (node here) site (as_ ++ trailing c) (v ▷ called_member d p (node (1 + here)) site this x) in
      run_parts-spans p q start site false ps j' lo (m + r + mid) hi u a (omega (arith, b)) (omega (arith, s, e, first, e', sum))
      (method-spans p (asked_before ps q) here site this x (as_ ++ trailing c) (m + r) lo mid v (omega (arith, a)) (omega (arith, b)) h (append-span as_ (trailing c) m r args (trailing-span c r closure))) behind
  run_parts-spans p q start site this (JudgedPart.Index is ∷ ps) n lo mid hi v a b s h t =
      let (k, j, e, first, others) = t in
      let here : ℕ = own_nodes ps + start in
      run_parts-spans p q start site false ps j lo (k + mid) hi (index_value d p (asked_before ps q) (node here) site is v) a (omega (arith, b)) (omega (arith, s, e))
      (index-spans p (asked_before ps q) here site is k lo mid v (omega (arith, a)) (omega (arith, b)) h first) others
  run_parts-spans p q start site this (JudgedPart.Call as_ c ∷ ps) n lo mid hi v a b s h t =
      let (k, j, e, call, behind) = t in
      let (m, r, sum, args, closure) = call in
      let here : ℕ = own_nodes ps + start in
      let u : Verdict Expr = call_value d p (asked_before ps q) (node here) site (as_ ++ trailing c) (v ▷ called_value) in
      run_parts-spans p q start site false ps j lo (m + r + mid) hi u a (omega (arith, b)) (omega (arith, s, e, sum))
      (call_at-spans p (asked_before ps q) here site (as_ ++ trailing c) (m + r) lo mid (v ▷ called_value) (omega (arith, a)) (omega (arith, b)) (called_value-spans v h) (append-span as_ (trailing c) m r args (trailing-span c r closure))) behind

  -- ---- the operand
  pub callee_by-takes : (p : Place) (site : ℕ) (e : JudgedExpr) (x : Option ℕ) (k : ℕ) → SpansExpr k e → IsOneIf x k → Takes k Anywhere (callee_by d p site e x)
  callee_by-takes p site e (Some x) k t one lo w i =
      takes-as Anywhere (callee_by d p site e (Some x)) (sym one) (leaf-takes Anywhere (λ n. called_name d p n site x) (λ here n at. called_name-stays d p n site x (omega (arith, at), omega (arith, at)))) lo w i
  callee_by-takes p site e None k t one lo w i = called_value-spans (e.value p asked.Nothing uses.Kept w) (t.takes p asked.Nothing uses.Kept lo w i)

  pub run_uncalled-spans : (p : Place) (q : Asked) (start site : ℕ) (e : JudgedExpr) (ps : List JudgedPart) (k n lo hi : ℕ) (w : Walk) → start ≡ lo → hi ≡ k + n + (own_nodes ps + lo) → w.next ≡ own_nodes ps + lo →
      SpansExpr k e → SpanParts n ps → Spans (since w) lo hi (Within lo hi) (run_parts d p q start site e.is_self (e.value p asked.Nothing uses.Kept w) ps)
  run_uncalled-spans p q start site e ps k n lo hi w at sum i s t =
      let mid : ℕ = k + (own_nodes ps + lo) in
      let v : Verdict Expr = e.value p asked.Nothing uses.Kept w in
      run_parts-spans p q start site e.is_self ps n lo mid hi v (omega (arith, at)) (omega (arith, at)) (omega (arith, sum))
      (wider lo mid v (omega arith) refl (s.takes p asked.Nothing uses.Kept (own_nodes ps + lo) w i)) t

  pub run_first-spans : (p : Place) (q : Asked) (start site : ℕ) (e : JudgedExpr) (ps : List JudgedPart) (k n lo hi : ℕ) (w : Walk) → start ≡ lo → hi ≡ k + n + (own_nodes ps + lo) → w.next ≡ own_nodes ps + lo →
      SpansExpr k e → IsOneIf e.name k → SpanParts n ps → Spans (since w) lo hi (Within lo hi) (run_first d p q start site e ps w)
  run_first-spans p q start site e [] k n lo hi w at sum i s one t = run_uncalled-spans p q start site e [] k n lo hi w at sum i s t
  run_first-spans p q start site e (JudgedPart.Member x c ∷ ps) k n lo hi w at sum i s one t = run_uncalled-spans p q start site e (JudgedPart.Member x c ∷ ps) k n lo hi w at sum i s t
  run_first-spans p q start site e (JudgedPart.Index is ∷ ps) k n lo hi w at sum i s one t = run_uncalled-spans p q start site e (JudgedPart.Index is ∷ ps) k n lo hi w at sum i s t
  run_first-spans p q start site e (JudgedPart.Call as_ c ∷ ps) k n lo hi w at sum i s one t =
      let (f, j, g, call, behind) = t in
      let (m, r, parts, args, closure) = call in
      let here : ℕ = own_nodes ps + start in
      let first : ℕ = suc (own_nodes ps + lo) in
      let mid : ℕ = k + first in
      let v : Verdict Callee = callee d p site e w in
      let before : Spans (since w) first mid Anything v = callee_by-takes p site e e.name k s one first w (omega (arith, i)) in
      let u : Verdict Expr = call_value d p (asked_before ps q) (node here) site (as_ ++ trailing c) v in
      run_parts-spans p q start site false ps j lo (m + r + mid) hi u (omega (arith, at)) (omega (arith, at)) (omega (arith, sum, g, parts))
      (call_at-spans p (asked_before ps q) here site (as_ ++ trailing c) (m + r) lo mid v (omega (arith, at)) (omega (arith, at)) (earlier lo v (omega arith) before) (append-span as_ (trailing c) m r args (trailing-span c r closure))) behind

  pub postfix-takes : (e : JudgedExpr) (ps : List JudgedPart) (site k n : ℕ) (p : Place) (q : Asked) (u : Use) → SpansExpr k e → IsOneIf e.name k → SpanParts n ps → Takes (own_nodes ps + (k + n)) Within (postfix_value d e ps site p q u)
  postfix-takes e ps site k n p q u s one t =
      numbered_many-takes Within (own_nodes ps) (k + n) (λ start. run_first d p q start site e ps)
      (λ lo hi start at sum w i. run_first-spans p q start site e ps k n lo hi w at sum i s one t)
