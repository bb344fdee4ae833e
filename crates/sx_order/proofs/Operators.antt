-- Operators: each link takes the nodes of its operand.
use Rattle.std.proofs.Common.{◌≡◌, ℕ, ◌+◌, ◌≤◌, List, [], ◌∷◌, Option, length, sym, refl, arith}
use Rattle.sx_span.specs.declared.places.Node.{Node}
use Rattle.sx_tree.specs.declared.operators.BinaryOperator.{BinaryOperator}
use Rattle.sx_typed.specs.declared.code.Expr.{Expr}
use Rattle.sx_scope.specs.declared.stop.TypeKind.TheVariants as kind
use Rattle.sx_scope.specs.declared.walk.Asked.{Asked}
use Rattle.sx_scope.specs.declared.walk.Place.{Place}
use Rattle.sx_scope.specs.declared.walk.Use.TheVariants as uses
use Rattle.sx_scope.specs.declared.walk.Walk.{Walk}
use Rattle.sx_scope.specs.Verdict.{Verdict, typed, ◌▷◌, both_by, Judging}
use Rattle.sx_scope.specs.Walks.{node, numbered_many}
use Rattle.sx_scope.specs.Names.{agrees}
use Rattle.sx_scope.specs.Paths.{an_expr}
use Rattle.sx_calls.specs.Operators.{fits_left, left_fitting, right_asked, operated, operation, result_of, linked, run_links, given}
use Rattle.sx_calls.specs.Parts.{JudgedLink}
use Rattle.sx_order.specs.Order.{Lies, Start, since, Spans, Stays, Within, Takes}
use Rattle.sx_order.specs.Parts.{SpansExpr, SpanLinks}
use Rattle.sx_order.proofs.Spans.{▷-spans, both_by-spans, spans-to, wider, typed-stays, need-stays, numbered_many-takes}

pub given-stays : {lo hi : ℕ} {Q : Expr → Type 0} (n : Node) (q : Asked) (e : Expr) → Lies lo hi n → Q e → Stays lo hi Q (given n q e)
given-stays n q e l h = need-stays (agrees q e.ty) kind.Mismatch n (typed e) l (typed-stays e h)

pub left_fitting-stays : {lo hi : ℕ} (o : BinaryOperator) (e : Expr) → Within lo hi e → Stays lo hi (Within lo hi) (left_fitting o e)
left_fitting-stays o e l = need-stays (fits_left o e.ty) kind.Mismatch e.node (typed e) l (typed-stays e l)

pub operated-stays : {lo hi : ℕ} (o : BinaryOperator) (n : Node) (site : ℕ) (x : Expr × Expr) → Lies lo hi n → Stays lo hi (Within lo hi) (operated o n site x)
operated-stays o n site x l = typed-stays (an_expr n site (result_of o) (operation o x.0 x.1)) l

pub linked-spans : {old : Start} (p : Place) (n : Node) (site : ℕ) (l : JudgedLink) (k lo mid hi : ℕ) (v : Verdict Expr) → lo ≤ mid → hi ≡ k + mid → Lies lo hi n →
    Spans old lo mid (Within lo mid) v → SpansExpr k l.operand → Spans old lo hi (Within lo hi) (linked p n site l v)
linked-spans {old = old} p n site l k lo mid hi v a s i h t =
    let left : Spans old lo mid (Within lo mid) (v ▷ left_fitting l.operator) = ▷-spans v (left_fitting l.operator) h (λ e j. left_fitting-stays l.operator e j) in
    let right : (o : Option Expr) (w : Walk) → w.next ≡ mid → Spans (since w) mid hi (Within mid (k + mid)) (l.operand.value p (right_asked l.operator o) uses.Kept w) =
    λ o w e. spans-to (l.operand.value p (right_asked l.operator o) uses.Kept w) (sym s) (t.takes p (right_asked l.operator o) uses.Kept mid w e) in
    ▷-spans (both_by (v ▷ left_fitting l.operator) (λ o. l.operand.value p (right_asked l.operator o) uses.Kept)) (operated l.operator n site)
    (both_by-spans (v ▷ left_fitting l.operator) (λ o. l.operand.value p (right_asked l.operator o) uses.Kept) a (omega (arith, s)) left right)
    (λ x _. operated-stays l.operator n site x i)

-- the nodes of the operators come first, from `start` on
pub run_links-spans : {old : Start} (p : Place) (site : ℕ) (ls : List JudgedLink) (start n lo mid hi : ℕ) (v : Verdict Expr) → lo ≤ start → start + length ls ≤ mid → hi ≡ n + mid →
    Spans old lo mid (Within lo mid) v → SpanLinks n ls → Spans old lo hi (Within lo hi) (run_links p start site v ls)
run_links-spans p site [] start n lo mid hi v a b s h t = wider lo hi v (omega arith) (omega (arith, s, t)) h
run_links-spans {old = old} p site (l ∷ ls) start n lo mid hi v a b s h t =
    let (k, j, e, first, others) = t in
    let m : Node = node (start + length ls) in
    let one : Spans old lo (k + mid) (Within lo (k + mid)) (linked p m site l v) = linked-spans p m site l k lo mid (k + mid) v (omega arith) refl (omega arith, omega arith) h first in
    run_links-spans p site ls start j lo (k + mid) hi (linked p m site l v) a (omega arith) (omega (arith, s, e)) one others

-- operators of one level: their nodes, and then those of the operands
pub chain-takes : (p : Place) (q : Asked) (site : ℕ) (m : Judging Expr) (ls : List JudgedLink) (k n : ℕ) → Takes k Within m → SpanLinks n ls →
    Takes (length ls + (k + n)) Within (numbered_many (length ls) (λ start w. run_links p start site (m w) ls ▷ given (node start) q))
chain-takes p q site m ls k n t h =
    numbered_many-takes Within (length ls) (k + n) (λ start w. run_links p start site (m w) ls ▷ given (node start) q)
    (λ lo hi start at sum w e.
    let mid : ℕ = k + (length ls + lo) in
    let first : Spans (since w) lo mid (Within lo mid) (m w) = wider lo mid (m w) (omega arith) refl (t (length ls + lo) w e) in
    let all : Spans (since w) lo hi (Within lo hi) (run_links p start site (m w) ls) = run_links-spans p site ls start n lo mid hi (m w) (omega (arith, at)) (omega (arith, at)) (omega (arith, sum)) first h in
    ▷-spans (run_links p start site (m w) ls) (given (node start) q) all (λ x i. given-stays (node start) q x (omega (arith, at), omega (arith, at, i.0, i.1)) i))
