-- Expressions without parts behind them: a node, and those of their operands and elements.
use Rattle.std.proofs.Common.{◌≡◌, ℕ, suc, ◌+◌, ◌≤◌, List, [], ◌∷◌, ◌++◌, Some, length, refl, arith}
use Rattle.sx_span.specs.declared.places.Node.{Node}
use Rattle.sx_types.specs.declared.types.Ty.{Ty}
use Rattle.sx_types.specs.declared.types.Ty.TheVariants as ty
use Rattle.sx_typed.specs.declared.code.Expr.{Expr}
use Rattle.sx_typed.specs.declared.code.Form.{Form}
use Rattle.sx_typed.specs.declared.code.Form.TheVariants as forms
use Rattle.sx_scope.specs.declared.declarations.Declarations.{Declarations}
use Rattle.sx_scope.specs.declared.walk.Asked.{Asked}
use Rattle.sx_scope.specs.declared.walk.Asked.TheVariants as asked
use Rattle.sx_scope.specs.declared.walk.Place.{Place}
use Rattle.sx_scope.specs.declared.walk.Use.{Use}
use Rattle.sx_scope.specs.declared.walk.Use.TheVariants as uses
use Rattle.sx_scope.specs.Verdict.{Verdict, typed, Judging, ◌▷◌, both}
use Rattle.sx_scope.specs.Walks.{numbered}
use Rattle.sx_scope.specs.Names.{name_value, self_value}
use Rattle.sx_scope.specs.Paths.{an_expr}
use Rattle.sx_calls.specs.Operators.{asked_first, given}
use Rattle.sx_calls.specs.Parts.{JudgedExpr, JudgedLink, trailing}
use Rattle.sx_check_expr.specs.Judge.{constant, bracketed, bracketed_value, negated, negated_value, inverted, inverted_value, chain_value, element_added, run_elements, array_made, array_value, named_call}
use Rattle.sx_order.specs.Order.{Lies, Start, since, Spans, Stays, Takes, Anything, Within, IsAt}
use Rattle.sx_order.specs.Parts.{SpansExpr, SpanExprs, SpanLinks}
use Rattle.sx_order.proofs.Names.{name_value-stays, self_value-stays}
use Rattle.sx_order.proofs.Operators.{given-stays, chain-takes}
use Rattle.sx_order.proofs.Calls.{named_call-takes}
use Rattle.sx_order.proofs.Spans.{▷-spans, run-spans, spans-to, typed-first, typed-stays, numbered-takes, at-takes, at-within, wider, earlier}
use Rattle.sx_order.proofs.Arguments.{trailing-span}

pub constant-takes : (site : ℕ) (t : Ty) (f : Form) (p : Place) (q : Asked) (u : Use) → Takes 1 Within (constant site t f p q u)
constant-takes site t f p q u =
    at-takes (λ n. given n q (an_expr n site t f)) (λ lo n at. given-stays {Q = IsAt n} n q (an_expr n site t f) (omega (arith, at), omega (arith, at)) refl)

-- an operand behind the node
pub operand-takes : (e : JudgedExpr) (p : Place) (q : Asked) (k : ℕ) (f : Node → Expr → Judging Expr) → ((lo hi : ℕ) (n : Node) (x : Expr) → Lies lo hi n → Stays lo hi (IsAt n) (f n x)) → SpansExpr k e →
    Takes (suc k) Within (numbered (λ n w. e.value p q uses.Kept w ▷ f n))
operand-takes e p q k f h t =
    numbered-takes Within k (λ n w. e.value p q uses.Kept w ▷ f n)
    (λ lo hi n at sum w i.
    let v : Verdict Expr = e.value p q uses.Kept w in
    let first : Spans (since w) lo hi (Within lo hi) v = wider lo hi v (omega arith) sum (t.takes p q uses.Kept (suc lo) w i) in
    let l : Lies lo hi n = (omega (arith, at), omega (arith, at, sum)) in
    at-within n (v ▷ f n) l (▷-spans v (f n) first (λ x _. h lo hi n x l)))

pub bracketed-takes : (e : JudgedExpr) (site k : ℕ) (p : Place) (q : Asked) (u : Use) → SpansExpr k e → Takes (suc k) Within (bracketed_value e site p q u)
bracketed-takes e site k p q u t =
    operand-takes e p q k (λ n. bracketed n site) (λ lo hi n x l. typed-stays (an_expr n site x.ty (forms.Bracketed x)) refl) t

pub negated-takes : (e : JudgedExpr) (site k : ℕ) (p : Place) (q : Asked) (u : Use) → SpansExpr k e → Takes (suc k) Within (negated_value e site p q u)
negated-takes e site k p q u t =
    operand-takes e p (asked.Type ty.Int) k (λ n. negated n site q) (λ lo hi n x l. given-stays {Q = IsAt n} n q (an_expr n site ty.Int (forms.Negate x)) l refl) t

pub inverted-takes : (e : JudgedExpr) (site k : ℕ) (p : Place) (q : Asked) (u : Use) → SpansExpr k e → Takes (suc k) Within (inverted_value e site p q u)
inverted-takes e site k p q u t =
    operand-takes e p (asked.Type ty.Bool) k (λ n. inverted n site q) (λ lo hi n x l. given-stays {Q = IsAt n} n q (an_expr n site ty.Bool (forms.Not x)) l refl) t

pub chain_value-takes : (e : JudgedExpr) (ls : List JudgedLink) (site k n : ℕ) (p : Place) (q : Asked) (u : Use) → SpansExpr k e → SpanLinks n ls → Takes (length ls + (k + n)) Within (chain_value e ls site p q u)
chain_value-takes e ls site k n p q u t h = chain-takes p q site (e.value p (asked_first ls) uses.Kept) ls k n (t.takes p (asked_first ls) uses.Kept) h

-- ---- an array
pub element_added-stays : {lo hi : ℕ} (x : List Expr × Expr) → Stays lo hi Anything (element_added x)
element_added-stays x = typed-stays (x.0 ++ x.1 ∷ []) tt

pub run_elements-spans : {old : Start} (p : Place) (es : List JudgedExpr) (n lo mid hi : ℕ) (v : Verdict (List Expr)) → lo ≤ mid → hi ≡ n + mid → Spans old lo mid Anything v → SpanExprs n es → Spans old lo hi Anything (run_elements p v es)
run_elements-spans p [] n lo mid hi v l s h t = spans-to v (omega (arith, s, t)) h
run_elements-spans {old = old} p (e ∷ es) n lo mid hi v l s h t =
    let (k, j, c, first, others) = t in
    let m = e.value p (asked.Type ty.Int) uses.Kept in
    let one : Spans old lo (k + mid) Anything (both v m ▷ element_added) =
    run-spans Anything v m element_added l (omega arith) h (first.takes p (asked.Type ty.Int) uses.Kept mid) (λ x _. element_added-stays x) in
    run_elements-spans p es j lo (k + mid) hi (both v m ▷ element_added) (omega arith) (omega (arith, s, c)) one others

pub array-takes : (es : List JudgedExpr) (site k : ℕ) (p : Place) (q : Asked) (u : Use) → SpanExprs k es → Takes (suc k) Within (array_value es site p q u)
array-takes es site k p q u t =
    numbered-takes Within k (λ n w. run_elements p (typed [] w) es ▷ array_made n site q)
    (λ lo hi n at sum w i.
    let l : Lies lo hi n = (omega (arith, at), omega (arith, at, sum)) in
    let elements : Spans (since w) (suc lo) hi Anything (run_elements p (typed [] w) es) = run_elements-spans p es k (suc lo) (suc lo) hi (typed [] w) (omega arith) sum (typed-first [] w i tt) t in
    at-within n (run_elements p (typed [] w) es ▷ array_made n site q) l
    (▷-spans {R = IsAt n} (run_elements p (typed [] w) es) (array_made n site q) (earlier lo (run_elements p (typed [] w) es) (omega arith) elements)
    (λ x _. given-stays {Q = IsAt n} n q (an_expr n site ty.Array (forms.Elements x)) l refl)))

-- ---- a name, and one with a closure literal behind it
module _ (d : Declarations) where
  pub name-takes : (x site : ℕ) (p : Place) (q : Asked) (u : Use) → Takes 1 Within (numbered (λ n. name_value d p q u n site x))
  name-takes x site p q u = at-takes (λ n. name_value d p q u n site x) (λ lo n at. name_value-stays d p q u n site x (omega (arith, at), omega (arith, at)))

  pub self-takes : (site : ℕ) (p : Place) (q : Asked) → Takes 1 Within (numbered (λ n. self_value d p q n site))
  self-takes site p q = at-takes (λ n. self_value d p q n site) (λ lo n at. self_value-stays d p q n site (omega (arith, at), omega (arith, at)))

  pub named-takes : (x : ℕ) (c : JudgedExpr) (site k : ℕ) (p : Place) (q : Asked) (u : Use) → SpansExpr k c → Takes (suc (suc k + 1)) Within (named_call d x c site p q u)
  named-takes x c site k p q u t = named_call-takes d p q site x (trailing (Some c)) (suc k) (trailing-span (Some c) (suc k) (k, refl, t))
