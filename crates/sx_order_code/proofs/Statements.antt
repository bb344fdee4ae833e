-- Statements one after another, blocks and bodies take the nodes of the statements.
use Rattle.std.proofs.Common.{◌≡◌, ℕ, suc, ◌+◌, ◌≤◌, Bool, true, false, cond, List, [], ◌∷◌, ◌++◌, Option, Some, None, length, refl, sym, arith}
use Rattle.sx_typed.specs.declared.code.Expr.{Expr}
use Rattle.sx_typed.specs.declared.code.Statement.{Statement}
use Rattle.sx_typed.specs.declared.code.StatementForm.TheVariants as statements
use Rattle.sx_scope.specs.declared.walk.Gives.{Gives}
use Rattle.sx_scope.specs.declared.walk.Place.{Place}
use Rattle.sx_scope.specs.declared.walk.Use.TheVariants as uses
use Rattle.sx_scope.specs.Verdict.{Verdict, typed, ◌▷◌, both}
use Rattle.sx_scope.specs.Walks.{with_locals}
use Rattle.sx_calls.specs.Parts.{JudgedExpr, JudgedStatement}
use Rattle.sx_bodies.specs.Statements.{statement, statement_added, run_statements, inside, scoped, block, has_value, asked_to_give, given_back, single, site_of, body_by, body}
use Rattle.sx_order.specs.Order.{Start, since, Spans, Stays, Takes, Anything, Anywhere, Within}
use Rattle.sx_order.specs.Parts.{SpansAlone, SpanStatements}
use Rattle.sx_order.proofs.Spans.{▷-spans, run-spans, spans-to, moved-spans, typed-first, typed-stays, numbered-takes, takes-as, wider}
use Rattle.sx_order.proofs.Own.{first-spans}

pub statement_added-stays : {lo hi : ℕ} (x : List Statement × Statement) → Stays lo hi Anything (statement_added x)
statement_added-stays x = typed-stays (x.0 ++ x.1 ∷ []) tt

pub run_statements-spans : {old : Start} (p : Place) (ss : List JudgedStatement) (n lo mid hi : ℕ) (v : Verdict (List Statement)) → lo ≤ mid → hi ≡ n + mid → Spans old lo mid Anything v → SpanStatements n ss → Spans old lo hi Anything (run_statements p v ss)
run_statements-spans p [] n lo mid hi v l s h t = spans-to v (omega (arith, s, t)) h
run_statements-spans {old = old} p (x ∷ ss) n lo mid hi v l s h t =
    let (k, j, e, first, others) = t in
    let one : Spans old lo (k + mid) Anything (both v (x.value p) ▷ statement_added) =
    run-spans Anything v (x.value p) statement_added l (omega arith) h (first.takes p mid) (λ y _. statement_added-stays y) in
    run_statements-spans p ss j lo (k + mid) hi (both v (x.value p) ▷ statement_added) (omega arith) (omega (arith, s, e)) one others

pub scoped-takes : (p : Place) (ss : List JudgedStatement) (n : ℕ) → SpanStatements n ss → Takes n Anywhere (scoped p ss)
scoped-takes p ss n t lo w e =
    moved-spans (with_locals (length w.locals)) (run_statements (inside p w) (typed [] w) ss) (λ w. (refl, refl))
    (run_statements-spans (inside p w) ss n lo lo (n + lo) (typed [] w) (omega arith) refl (typed-first [] w e tt) t)

-- a block is a node
pub block-takes : (p : Place) (ss : List JudgedStatement) (n : ℕ) → SpanStatements n ss → Takes (suc n) Anywhere (block p ss)
block-takes p ss n t =
    numbered-takes Anywhere n (λ _. scoped p ss) (λ lo hi m at sum w e. first-spans (scoped p ss) n lo hi w sum e (scoped-takes p ss n t))

-- ---- bodies
pub cond-alone : (b : Bool) (o : Option JudgedExpr) (n : ℕ) → SpansAlone n o → SpansAlone n (cond b o None)
cond-alone true o n h = h
cond-alone false o n h = tt

-- the number is told otherwise
pub alone-as : (o : Option JudgedExpr) (k n : ℕ) → k ≡ n → SpansAlone k o → SpansAlone n o
alone-as None k n e h = tt
alone-as (Some x) k n e h = (h.0, omega (arith, e, h.1), h.2)

pub single-alone : (g : Gives) (ss : List JudgedStatement) (n : ℕ) → SpanStatements n ss → SpansAlone n (single g ss)
single-alone g [] n t = tt
single-alone g (s ∷ []) n t =
    let (k, j, e, first, others) = t in
    let same : k ≡ n = omega (arith, e, others) in
    cond-alone (has_value g) s.alone n (alone-as s.alone k n same first.alone)
single-alone g (s ∷ (r ∷ ss)) n t = tt

pub body_by-takes : (p : Place) (ss : List JudgedStatement) (o : Option JudgedExpr) (n : ℕ) → SpanStatements n ss → SpansAlone n o → Takes n Anywhere (body_by p ss o)
body_by-takes p ss None n t h = scoped-takes p ss n t
body_by-takes p ss (Some x) n t h =
    let (k, e, i) = h in
    takes-as Anywhere (body_by p ss (Some x)) (sym e)
    (numbered-takes Anywhere k (λ m w. x.value p (asked_to_give p.gives) uses.Kept w ▷ given_back (site_of ss))
    (λ lo hi m at sum w f.
    let v : Verdict Expr = x.value p (asked_to_give p.gives) uses.Kept w in
    let first : Spans (since w) lo hi (Within lo hi) v = wider lo hi v (omega arith) sum (i.takes p (asked_to_give p.gives) uses.Kept (suc lo) w f) in
    ▷-spans v (given_back (site_of ss)) first (λ y _. typed-stays (statement (site_of ss) (statements.Return (Some y)) ∷ []) tt)))

pub body-takes : (p : Place) (ss : List JudgedStatement) (n : ℕ) → SpanStatements n ss → Takes n Anywhere (body p ss)
body-takes p ss n t = body_by-takes p ss (single p.gives ss) n t (single-alone p.gives ss n t)
