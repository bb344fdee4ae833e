-- Statements that branch, repeat or leave: a node, and those of the condition or value and of the blocks.
use Rattle.std.proofs.Common.{◌≡◌, ℕ, suc, ◌+◌, List, [], ◌∷◌, Option, Some, None, refl, sym, arith}
use Rattle.sx_span.specs.declared.places.Node.{Node}
use Rattle.sx_types.specs.declared.types.Ty.TheVariants as ty
use Rattle.sx_typed.specs.declared.code.Expr.{Expr}
use Rattle.sx_typed.specs.declared.code.Statement.{Statement}
use Rattle.sx_typed.specs.declared.code.StatementForm.{StatementForm}
use Rattle.sx_typed.specs.declared.code.StatementForm.TheVariants as statements
use Rattle.sx_scope.specs.declared.stop.TypeKind.TheVariants as kind
use Rattle.sx_scope.specs.declared.walk.Asked.{Asked}
use Rattle.sx_scope.specs.declared.walk.Asked.TheVariants as asked
use Rattle.sx_scope.specs.declared.walk.Gives.{Gives}
use Rattle.sx_scope.specs.declared.walk.Gives.TheVariants as gives
use Rattle.sx_scope.specs.declared.walk.Place.{Place}
use Rattle.sx_scope.specs.declared.walk.Use.TheVariants as uses
use Rattle.sx_scope.specs.declared.walk.Walk.{Walk}
use Rattle.sx_scope.specs.Verdict.{Verdict, typed, ◌▷◌, both, fault, need}
use Rattle.sx_scope.specs.WrittenTypes.{is_void}
use Rattle.sx_calls.specs.Parts.{JudgedExpr, JudgedStatement, JudgedElse}
use Rattle.sx_bodies.specs.Statements.{statement, block, else_block, if_made, if_statement, in_loop, while_made, while_statement, returned, return_with, return_alone, return_by, return_statement, leaving}
use Rattle.sx_order.specs.Order.{Lies, since, Spans, Stays, Takes, Anything, Anywhere}
use Rattle.sx_order.specs.Parts.{SpansExpr, SpanStatements, SpansElse}
use Rattle.sx_order.proofs.Spans.{▷-spans, both-spans, cond-spans, fault-stays, typed-first, typed-stays, need-stays, numbered-takes, leaf-takes, wider, anything, takes-as}
use Rattle.sx_order_code.specs.Tied.{SpansOptional}
use Rattle.sx_order.proofs.Own.{later-spans}
use Rattle.sx_order_code.proofs.Statements.{block-takes}

pub else_block-takes : (p : Place) (b : JudgedElse) (n : ℕ) → SpansElse n b → Takes n Anywhere (else_block p b)
else_block-takes p JudgedElse.Absent n t lo w e = typed-first [] w (omega (arith, e, t)) tt
else_block-takes p (JudgedElse.Block ss) n t lo w e = takes-as Anywhere (else_block p (JudgedElse.Block ss)) (sym t.1) (block-takes p ss t.0 t.2) lo w e
else_block-takes p (JudgedElse.ElseIf s) n t lo w e =
    ▷-spans (s.value p w) (λ x. typed (x ∷ [])) (t.takes p lo w e) (λ x _. typed-stays (x ∷ []) tt)

-- the condition
pub condition-spans : (p : Place) (c : JudgedExpr) (k lo : ℕ) (w : Walk) → w.next ≡ suc lo → SpansExpr k c → Spans (since w) lo (k + suc lo) Anything (c.value p (asked.Type ty.Bool) uses.Kept w)
condition-spans p c k lo w e t =
    let v : Verdict Expr = c.value p (asked.Type ty.Bool) uses.Kept w in
    anything v (wider lo (k + suc lo) v (omega arith) refl (t.takes p (asked.Type ty.Bool) uses.Kept (suc lo) w e))

pub if_made-stays : {lo hi : ℕ} (site : ℕ) (x : (Expr × List Statement) × List Statement) → Stays lo hi Anything (if_made site x)
if_made-stays site x = typed-stays (statement site (statements.If x.0.0 x.0.1 x.1)) tt

pub if_statement-takes : (c : JudgedExpr) (a : List JudgedStatement) (b : JudgedElse) (site k j m : ℕ) (p : Place) → SpansExpr k c → SpanStatements j a → SpansElse m b → Takes (suc (k + (suc j + m))) Anywhere (if_statement c a b site p)
if_statement-takes c a b site k j m p r s t =
    numbered-takes Anywhere (k + (suc j + m)) (λ n w. both (both (c.value p (asked.Type ty.Bool) uses.Kept w) (block p a)) (else_block p b) ▷ if_made site)
    (λ lo hi n at sum w f.
    let v : Verdict Expr = c.value p (asked.Type ty.Bool) uses.Kept w in
    let one : ℕ = k + suc lo in
    let two : ℕ = suc j + one in
    let first : Spans (since w) lo two _ (both v (block p a)) =
    both-spans {Q = Anything} {R = Anything} v (block p a) (omega arith) (omega arith) (condition-spans p c k lo w f r) (λ u i. block-takes p a j s one u i) in
    ▷-spans (both (both v (block p a)) (else_block p b)) (if_made site)
    (both-spans {R = Anything} (both v (block p a)) (else_block p b) (omega arith) (omega (arith, sum)) first (λ u i. later-spans (else_block p b) m two hi u (omega (arith, sum)) i (else_block-takes p b m t)))
    (λ x _. if_made-stays site x))

pub while_made-stays : {lo hi : ℕ} (site : ℕ) (x : Expr × List Statement) → Stays lo hi Anything (while_made site x)
while_made-stays site x = typed-stays (statement site (statements.While x.0 x.1)) tt

pub while_statement-takes : (c : JudgedExpr) (a : List JudgedStatement) (site k j : ℕ) (p : Place) → SpansExpr k c → SpanStatements j a → Takes (suc (k + suc j)) Anywhere (while_statement c a site p)
while_statement-takes c a site k j p r s =
    numbered-takes Anywhere (k + suc j) (λ n w. both (c.value p (asked.Type ty.Bool) uses.Kept w) (block (in_loop p) a) ▷ while_made site)
    (λ lo hi n at sum w f.
    let v : Verdict Expr = c.value p (asked.Type ty.Bool) uses.Kept w in
    let one : ℕ = k + suc lo in
    ▷-spans (both v (block (in_loop p) a)) (while_made site)
    (both-spans {R = Anything} v (block (in_loop p) a) (omega arith) (omega (arith, sum)) (condition-spans p c k lo w f r) (λ u i. later-spans (block (in_loop p) a) (suc j) one hi u (omega (arith, sum)) i (block-takes (in_loop p) a j s)))
    (λ x _. while_made-stays site x))

-- ---- what leaves a body or a loop
pub return_alone-stays : {lo hi : ℕ} (g : Gives) (site : ℕ) (n : Node) → Lies lo hi n → Stays lo hi Anything (return_alone g site n)
return_alone-stays gives.Nothing site n l = fault-stays kind.BreakOutside n l
return_alone-stays gives.Unknown site n l = typed-stays (statement site (statements.Return None)) tt
return_alone-stays (gives.Type t) site n l = need-stays (is_void t) kind.Mismatch n (returned site None) l (typed-stays (statement site (statements.Return None)) tt)

pub asked-spans : (e : JudgedExpr) (p : Place) (q : Asked) (k lo hi : ℕ) (w : Walk) → hi ≡ k + suc lo → w.next ≡ suc lo → SpansExpr k e → Spans (since w) lo hi Anything (e.value p q uses.Kept w)
asked-spans e p q k lo hi w s f t =
    let v : Verdict Expr = e.value p q uses.Kept w in
    anything v (wider lo hi v (omega arith) s (t.takes p q uses.Kept (suc lo) w f))

pub return_with-spans : (g : Gives) (e : JudgedExpr) (site k lo hi : ℕ) (n : Node) (p : Place) (w : Walk) → Lies lo hi n → hi ≡ k + suc lo → w.next ≡ suc lo → SpansExpr k e → Spans (since w) lo hi Anything (return_with g e site n p w)
return_with-spans gives.Nothing e site k lo hi n p w l s f t =
    ▷-spans (e.value p asked.Nothing uses.Kept w) (λ x. fault kind.BreakOutside n) (asked-spans e p asked.Nothing k lo hi w s f t) (λ x _. fault-stays kind.BreakOutside n l)
return_with-spans gives.Unknown e site k lo hi n p w l s f t =
    ▷-spans (e.value p asked.Unknown uses.Kept w) (λ x. returned site (Some x)) (asked-spans e p asked.Unknown k lo hi w s f t) (λ x _. typed-stays (statement site (statements.Return (Some x))) tt)
return_with-spans (gives.Type u) e site k lo hi n p w l s f t =
    cond-spans (is_void u) (e.value p asked.Nothing uses.Kept w ▷ (λ x. fault kind.Mismatch n)) (e.value p (asked.Type u) uses.Kept w ▷ (λ x. returned site (Some x)))
    (▷-spans (e.value p asked.Nothing uses.Kept w) (λ x. fault kind.Mismatch n) (asked-spans e p asked.Nothing k lo hi w s f t) (λ x _. fault-stays kind.Mismatch n l))
    (▷-spans (e.value p (asked.Type u) uses.Kept w) (λ x. returned site (Some x)) (asked-spans e p (asked.Type u) k lo hi w s f t) (λ x _. typed-stays (statement site (statements.Return (Some x))) tt))

pub return_statement-takes : (o : Option JudgedExpr) (site k : ℕ) (p : Place) → SpansOptional k o → Takes (suc k) Anywhere (return_statement o site p)
return_statement-takes None site k p t =
    takes-as Anywhere (return_statement None site p) (omega (arith, t)) (leaf-takes Anywhere (return_by None site p) (λ lo n at. return_alone-stays p.gives site n (omega (arith, at), omega (arith, at))))
return_statement-takes (Some e) site k p t =
    numbered-takes Anywhere k (return_by (Some e) site p) (λ lo hi n at sum w f. return_with-spans p.gives e site k lo hi n p w (omega (arith, at), omega (arith, at, sum)) sum f t)

pub leaving-takes : (f : StatementForm) (site : ℕ) (p : Place) → Takes 1 Anywhere (leaving f site p)
leaving-takes f site p =
    leaf-takes Anywhere (λ n. need p.in_loop kind.BreakOutside n (typed (statement site f)))
    (λ lo n at. need-stays p.in_loop kind.BreakOutside n (typed (statement site f)) (omega (arith, at), omega (arith, at)) (typed-stays (statement site f) tt))
