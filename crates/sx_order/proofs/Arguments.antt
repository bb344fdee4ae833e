-- Arguments: each is a node, and takes those of its value.
use Rattle.std.proofs.Common.{◌≡◌, ℕ, suc, ◌+◌, ◌≤◌, Bool, List, [], ◌∷◌, ◌++◌, Option, Some, None, refl, subst, arith}
use Rattle.sx_span.specs.declared.places.Node.{Node}
use Rattle.sx_typed.specs.declared.code.Expr.{Expr}
use Rattle.sx_scope.specs.declared.stop.TypeKind.{TypeKind}
use Rattle.sx_scope.specs.declared.stop.TypeKind.TheVariants as kind
use Rattle.sx_scope.specs.declared.walk.Place.{Place}
use Rattle.sx_scope.specs.declared.walk.Walk.{Walk}
use Rattle.sx_scope.specs.Verdict.{Verdict, typed, ◌▷◌, unless_broken, loosely}
use Rattle.sx_scope.specs.Walks.{numbered}
use Rattle.sx_calls.specs.declared.passed.Passed.{Passed}
use Rattle.sx_calls.specs.declared.passed.Shape.{Shape}
use Rattle.sx_calls.specs.declared.passed.Slot.{Slot}
use Rattle.sx_calls.specs.declared.passed.Slot.TheVariants as slots
use Rattle.sx_calls.specs.Parts.{JudgedExpr, JudgedArgument, trailing}
use Rattle.sx_calls.specs.Calls.{is_assignable, broken_in, met, met_in, loose, some_value, is_loose, asked_in, use_in, settled, met_found, argument_value, with_argument, argument_added, first_slot, other_slots, run_argument, run_arguments}
use Rattle.sx_order.specs.Order.{Lies, Start, since, Spans, Stays, Takes, Anything, Anywhere, Within}
use Rattle.sx_order.specs.Parts.{SpansExpr, SpanArguments, SpansTrailing}
use Rattle.sx_order.proofs.Spans.{▷-spans, run-spans, spans-to, fault-stays, typed-stays, untold-stays, need-stays, unless_broken-stays, cond-spans, loosely-spans, numbered-takes, wider}

-- a value that meets its parameter, or doesn't: it fails where it stands itself, or as an argument
pub met-stays : {lo hi : ℕ} (assignable : Bool) (broken : Option TypeKind) (n : Node) (e : Expr) → Lies lo hi n → Within lo hi e → Stays lo hi Anything (met assignable broken n e)
met-stays assignable broken n e i j =
    need-stays assignable kind.NotAssignable e.node (unless_broken broken n (typed e)) j (unless_broken-stays broken n (typed e) i (typed-stays e tt))

pub met_found-spans : {old : Start} {lo hi : ℕ} (s : Slot) (n : Node) (a : Shape) (v : Verdict Expr) → Lies lo hi n → Spans old lo hi (Within lo hi) v → Spans old lo hi Anything (met_found s n a v)
met_found-spans s n a v i h = ▷-spans v (met_in s n a) h (λ e j. met-stays (is_assignable a e) (broken_in s a) n e i j)

pub loose-stays : {lo hi : ℕ} (s : Slot) (n : Node) (u : Unit {0}) → Lies lo hi n → Stays lo hi Anything (loose s n u)
loose-stays (slots.Failing k) n u i = fault-stays k n i
loose-stays slots.Unknown n u i = untold-stays
loose-stays slots.Loose n u i = typed-stays None tt
loose-stays (slots.For t) n u i = typed-stays None tt
loose-stays (slots.Property k t) n u i = typed-stays None tt
loose-stays slots.Printed n u i = typed-stays None tt

pub settled-spans : {old : Start} {lo hi : ℕ} (s : Slot) (n : Node) (v : Verdict Expr) → Lies lo hi n → Spans old lo hi Anything v → Spans old lo hi Anything (settled s n v)
settled-spans s n v i h =
    cond-spans (is_loose s) (loosely v ▷ loose s n) (v ▷ some_value) (▷-spans (loosely v) (loose s n) (loosely-spans v h) (λ u _. loose-stays s n u i)) (▷-spans v some_value h (λ e _. typed-stays (Some e) tt))

pub argument_value-spans : (p : Place) (s : Slot) (a : JudgedArgument) (k lo mid hi : ℕ) (n : Node) (w : Walk) → lo ≤ mid → hi ≡ k + mid → Lies lo hi n → w.next ≡ mid → SpansExpr k a.value → Spans (since w) lo hi Anything (argument_value p s a n w)
argument_value-spans p s a k lo mid hi n w l sum i e t =
    let v : Verdict Expr = a.value.value p (asked_in s) (use_in s a.shape) w in
    let h : Spans (since w) lo hi (Within lo hi) v = wider lo hi v l sum (t.takes p (asked_in s) (use_in s a.shape) mid w e) in
    settled-spans s n (met_found s n a.shape v) i (met_found-spans s n a.shape v i h)

pub argument-takes : (p : Place) (s : Slot) (a : JudgedArgument) (k : ℕ) → SpansExpr k a.value → Takes (suc k) Anywhere (numbered (argument_value p s a))
argument-takes p s a k t =
    numbered-takes Anywhere k (argument_value p s a) (λ lo hi n at sum w e. argument_value-spans p s a k lo (suc lo) hi n w (omega arith) sum (omega (arith, at), omega (arith, at, sum)) e t)

pub argument_added-stays : {lo hi : ℕ} (s : Slot) (a : Shape) (x : Passed × Option Expr) → Stays lo hi Anything (argument_added s a x)
argument_added-stays s a x = typed-stays (with_argument s a x.0 x.1) tt

pub run_argument-spans : {old : Start} (p : Place) (s : Slot) (a : JudgedArgument) (k lo mid : ℕ) (v : Verdict Passed) → lo ≤ mid → Spans old lo mid Anything v → SpansExpr k a.value → Spans old lo (suc k + mid) Anything (run_argument p v s a)
run_argument-spans p s a k lo mid v l h t =
    run-spans Anything v (numbered (argument_value p s a)) (argument_added s a.shape) l (omega arith) h (argument-takes p s a k t mid) (λ x _. argument_added-stays s a.shape x)

pub run_arguments-spans : {old : Start} (p : Place) (as_ : List JudgedArgument) (ss : List Slot) (n lo mid hi : ℕ) (v : Verdict Passed) → lo ≤ mid → hi ≡ n + mid → Spans old lo mid Anything v → SpanArguments n as_ → Spans old lo hi Anything (run_arguments p v ss as_)
run_arguments-spans p [] ss n lo mid hi v l s h t = spans-to v (omega (arith, s, t)) h
run_arguments-spans p (a ∷ as_) ss n lo mid hi v l s h t =
    let (k, j, e, first, others) = t in
    run_arguments-spans p as_ (other_slots ss) j lo (suc k + mid) hi (run_argument p v (first_slot ss) a) (omega arith) (omega (arith, s, e))
    (run_argument-spans p (first_slot ss) a k lo mid v l h first) others

-- ---- arguments and those behind them, and a closure literal behind a call
pub append-span : (as_ bs : List JudgedArgument) (n m : ℕ) → SpanArguments n as_ → SpanArguments m bs → SpanArguments (n + m) (as_ ++ bs)
append-span [] bs n m h t =
    let sum : m ≡ n + m = omega (arith, h) in
    subst (λ k. SpanArguments k bs) sum t
append-span (a ∷ as_) bs n m h t =
    let (k, j, e, first, others) = h in
    (k, j + m, omega (arith, e), first, append-span as_ bs j m others t)

pub trailing-span : (c : Option JudgedExpr) (n : ℕ) → SpansTrailing n c → SpanArguments n (trailing c)
trailing-span None n h = h
trailing-span (Some c) n h = (h.0, 0, omega (arith, h.1), h.2, refl)
