-- A statement that is an expression or an assignment: a node, and those of its expressions.
use Rattle.std.proofs.Common.{◌≡◌, ℕ, suc, ◌+◌, Option, arith, refl}
use Rattle.sx_tree.specs.declared.operators.Assignment.{Assignment}
use Rattle.sx_typed.specs.declared.code.Expr.{Expr}
use Rattle.sx_typed.specs.declared.code.StatementForm.TheVariants as statements
use Rattle.sx_scope.specs.declared.stop.TypeKind.TheVariants as kind
use Rattle.sx_scope.specs.declared.walk.Asked.TheVariants as asked
use Rattle.sx_scope.specs.declared.walk.Place.{Place}
use Rattle.sx_scope.specs.declared.walk.Use.TheVariants as uses
use Rattle.sx_scope.specs.declared.walk.Walk.{Walk}
use Rattle.sx_scope.specs.Verdict.{Verdict, typed, ◌▷◌, both_by}
use Rattle.sx_scope.specs.Paths.{modifiable}
use Rattle.sx_calls.specs.Parts.{JudgedExpr}
use Rattle.sx_bodies.specs.Statements.{statement, asked_of_left, assignable, asked_of_right, assigned_form, assigned, assignment, expr_statement}
use Rattle.sx_order.specs.Order.{since, Spans, Stays, Takes, Anything, Anywhere, Within}
use Rattle.sx_order.specs.Parts.{SpansExpr}
use Rattle.sx_order.proofs.Spans.{▷-spans, both_by-spans, spans-to, typed-stays, need-stays, numbered-takes, wider}

pub expr_statement-takes : (e : JudgedExpr) (site k : ℕ) (p : Place) → SpansExpr k e → Takes (suc k) Anywhere (expr_statement e site p)
expr_statement-takes e site k p t =
    numbered-takes Anywhere k (λ n w. e.value p asked.Nothing uses.Kept w ▷ (λ x. typed (statement site (statements.Expr x))))
    (λ lo hi n at sum w f.
    let v : Verdict Expr = e.value p asked.Nothing uses.Kept w in
    let first : Spans (since w) lo hi (Within lo hi) v = wider lo hi v (omega arith) sum (t.takes p asked.Nothing uses.Kept (suc lo) w f) in
    ▷-spans v (λ x. typed (statement site (statements.Expr x))) first (λ x _. typed-stays (statement site (statements.Expr x)) tt))

pub assignable-stays : {lo hi : ℕ} (e : Expr) → Within lo hi e → Stays lo hi Anything (assignable e)
assignable-stays e i = need-stays (modifiable e) kind.NotAssignable e.node (typed e) i (typed-stays e tt)

pub assigned-stays : {lo hi : ℕ} (a : Assignment) (site : ℕ) (x : Expr × Expr) → Stays lo hi Anything (assigned a site x)
assigned-stays a site x = typed-stays (statement site (assigned_form a x.0 x.1)) tt

pub assignment-takes : (a : Assignment) (l e : JudgedExpr) (site k j : ℕ) (p : Place) → SpansExpr k l → SpansExpr j e → Takes (suc (k + j)) Anywhere (assignment a l e site p)
assignment-takes a l e site k j p s t =
    numbered-takes Anywhere (k + j) (λ n w. both_by (l.value p (asked_of_left a) uses.Modified w ▷ assignable) (λ left. e.value p (asked_of_right a left) uses.Kept) ▷ assigned a site)
    (λ lo hi n at sum w f.
    let mid : ℕ = k + suc lo in
    let v : Verdict Expr = l.value p (asked_of_left a) uses.Modified w in
    let left : Spans (since w) lo mid (Within lo mid) v = wider lo mid v (omega arith) refl (s.takes p (asked_of_left a) uses.Modified (suc lo) w f) in
    let fitting : Spans (since w) lo mid Anything (v ▷ assignable) = ▷-spans v assignable left (λ x i. assignable-stays x i) in
    let right : (o : Option Expr) (u : Walk) → u.next ≡ mid → Spans (since u) mid hi (Within mid (j + mid)) (e.value p (asked_of_right a o) uses.Kept u) =
    λ o u i. spans-to (e.value p (asked_of_right a o) uses.Kept u) (omega (arith, sum)) (t.takes p (asked_of_right a o) uses.Kept mid u i) in
    ▷-spans (both_by (v ▷ assignable) (λ o. e.value p (asked_of_right a o) uses.Kept)) (assigned a site)
    (both_by-spans (v ▷ assignable) (λ o. e.value p (asked_of_right a o) uses.Kept) (omega arith) (omega (arith, sum)) fitting right)
    (λ x _. assigned-stays a site x))
