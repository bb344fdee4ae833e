-- How the ways to join judgements keep their failing nodes in order.
use Rattle.std.proofs.Common.{◌≡◌, ℕ, suc, ◌+◌, ◌≤◌, Bool, true, false, cond, List, ◌∷◌, Option, Some, None, sym, subst, arith, All}
use Rattle.sx_span.specs.declared.places.Node.{Node}
use Rattle.sx_scope.specs.declared.stop.TypeKind.{TypeKind}
use Rattle.sx_scope.specs.declared.stop.TypeStop.{TypeStop}
use Rattle.sx_scope.specs.declared.walk.Walk.{Walk}
use Rattle.sx_scope.specs.Verdict.{Verdict, typed, untold, depends, fails, failing, behind, Judging, ◌▷◌, both, both_by, beside_typed, beside_untold, beside_depending, need, fault, unless_broken, need_narrow, loosely, moved}
use Rattle.sx_scope.specs.Walks.{node, advanced, numbered, numbered_many}
use Rattle.sx_typed.specs.declared.code.Expr.{Expr}
use Rattle.sx_typed.specs.declared.program.Function.{Function}
use Rattle.sx_order.specs.Order.{number_of, Rising, Lies, Start, starting, since, Stands, Keeps, Spans, Stays, Takes, Anything, Within, IsAt, Each}
use Rattle.sx_order.proofs.Growing.{stands-before, stands-on, stands-same, reaches-first, stands-passed}
use Rattle.sx_order.proofs.Rising.{rising-wider, rising-append, rising-least}

-- ---- of a verdict
pub failing-rises : {A : Type 0} {old : Start} {lo hi : ℕ} {Q : A → Type 0} (v : Verdict A) → Spans old lo hi Q v → Rising lo hi (failing v)
failing-rises (typed a w) h = tt
failing-rises (untold w) h = tt
failing-rises (depends w) h = tt
failing-rises (fails f fs w) h = h.holds.1

pub behind-stands : {A : Type 0} {old : Start} {lo hi : ℕ} {Q : A → Type 0} (v : Verdict A) → Spans old lo hi Q v → Stands old hi (behind v)
behind-stands (typed a w) h = h.holds.0
behind-stands (untold w) h = h.holds
behind-stands (depends w) h = h.holds
behind-stands (fails f fs w) h = h.holds.0

pub behind-is : {A : Type 0} {old : Start} {lo hi : ℕ} {Q : A → Type 0} (v : Verdict A) → Spans old lo hi Q v → (behind v).next ≡ hi
behind-is v h = (behind-stands v h).next

-- the first failing node is the one with the least number
pub first-is-least : {A : Type 0} {old : Start} {lo hi : ℕ} {Q : A → Type 0} (f : TypeStop) (fs : List TypeStop) (w : Walk) → Spans old lo hi Q (fails f fs w) →
    Lies lo hi (node (number_of f)) × All (λ g. number_of f ≤ number_of g) fs
first-is-least {hi = hi} f fs w h = ((h.holds.1.0, h.holds.1.1), rising-least (number_of f) hi fs h.holds.1.2)

-- less is said of what is typed, and the nodes may begin before
pub weaker : {A : Type 0} {old : Start} {lo hi : ℕ} {Q : A → Type 0} (lo' : ℕ) (R : A → Type 0) (v : Verdict A) → lo' ≤ lo → ((a : A) → Q a → R a) → Spans old lo hi Q v → Spans old lo' hi R v
weaker lo' R (typed a w) l f h = record { holds = (h.holds.0, f a h.holds.1) }
weaker lo' R (untold w) l f h = record { holds = h.holds }
weaker lo' R (depends w) l f h = record { holds = h.holds }
weaker {lo = lo} {hi = hi} lo' R (fails g gs w) l f h = record { holds = (h.holds.0, rising-wider lo lo' hi hi (g ∷ gs) l (omega arith) h.holds.1) }

pub earlier : {A : Type 0} {old : Start} {lo hi : ℕ} {Q : A → Type 0} (lo' : ℕ) (v : Verdict A) → lo' ≤ lo → Spans old lo hi Q v → Spans old lo' hi Q v
earlier {Q = Q} lo' v l h = weaker lo' Q v l (λ a q. q) h

pub implied : {A : Type 0} {old : Start} {lo hi : ℕ} {Q : A → Type 0} (R : A → Type 0) (v : Verdict A) → ((a : A) → Q a → R a) → Spans old lo hi Q v → Spans old lo hi R v
implied {lo = lo} R v f h = weaker lo R v (omega arith) f h

pub anything : {A : Type 0} {old : Start} {lo hi : ℕ} {Q : A → Type 0} (v : Verdict A) → Spans old lo hi Q v → Spans old lo hi Anything v
anything v h = implied Anything v (λ a q. tt) h

-- ---- where it began
-- it may have begun before
pub sooner : {A : Type 0} {lo hi : ℕ} {Q : A → Type 0} (fs : List Function) (n m : ℕ) (v : Verdict A) → m ≤ n → Spans (starting fs n) lo hi Q v → Spans (starting fs m) lo hi Q v
sooner fs n m (typed a w) l h = record { holds = (stands-before fs n m w l h.holds.0, h.holds.1) }
sooner fs n m (untold w) l h = record { holds = stands-before fs n m w l h.holds }
sooner fs n m (depends w) l h = record { holds = stands-before fs n m w l h.holds }
sooner fs n m (fails g gs w) l h = record { holds = (stands-before fs n m w l h.holds.0, h.holds.1) }

-- it goes on from where another stood
pub onward : {A : Type 0} {old : Start} {mid lo hi : ℕ} {Q : A → Type 0} (w : Walk) (v : Verdict A) → mid ≤ hi → Stands old mid w → Spans (since w) lo hi Q v → Spans old lo hi Q v
onward w (typed a u) l s h = record { holds = (stands-on w u l s h.holds.0, h.holds.1) }
onward w (untold u) l s h = record { holds = stands-on w u l s h.holds }
onward w (depends u) l s h = record { holds = stands-on w u l s h.holds }
onward w (fails g gs u) l s h = record { holds = (stands-on w u l s h.holds.0, h.holds.1) }

-- ---- a node behind its parts
pub ▷-spans : {A B : Type 0} {old : Start} {lo hi : ℕ} {Q : A → Type 0} {R : B → Type 0} (v : Verdict A) (f : A → Judging B) →
    Spans old lo hi Q v → ((a : A) → Q a → Stays lo hi R (f a)) → Spans old lo hi R (v ▷ f)
▷-spans {old = old} (typed a w) f h k = k a h.holds.1 w (record { start = old; stands = h.holds.0 })
▷-spans (untold w) f h k = record { holds = h.holds }
▷-spans (depends w) f h k = record { holds = h.holds }
▷-spans (fails g gs w) f h k = record { holds = h.holds }

-- a node that is a function, which comes before those in its parts
pub ▷-adds : {A B : Type 0} {lo hi : ℕ} {Q : A → Type 0} {R : B → Type 0} (fs : List Function) (n : ℕ) (v : Verdict A) (f : A → Judging B) →
    Spans (starting fs (suc n)) lo hi Q v → ((a : A) → Q a → (w : Walk) → Stands (starting fs (suc n)) hi w → Spans (starting fs n) lo hi R (f a w)) → Spans (starting fs n) lo hi R (v ▷ f)
▷-adds fs n (typed a w) f h k = k a h.holds.1 w h.holds.0
▷-adds fs n (untold w) f h k = record { holds = stands-before fs (suc n) n w (omega arith) h.holds }
▷-adds fs n (depends w) f h k = record { holds = stands-before fs (suc n) n w (omega arith) h.holds }
▷-adds fs n (fails g gs w) f h k = record { holds = (stands-before fs (suc n) n w (omega arith) h.holds.0, h.holds.1) }

-- the same, where the walk of the parts begins behind the node
pub behind-adds : {A B : Type 0} {lo hi : ℕ} {Q : A → Type 0} {R : B → Type 0} (n : ℕ) (w : Walk) (v : Verdict A) (f : A → Judging B) → w.next ≡ suc n →
    Spans (since w) lo hi Q v → ((a : A) → Q a → (u : Walk) → Stands (starting w.literals (suc n)) hi u → Spans (starting w.literals n) lo hi R (f a u)) → Spans (starting w.literals n) lo hi R (v ▷ f)
behind-adds {lo = lo} {hi = hi} {Q = Q} n w v f e h k = ▷-adds w.literals n v f (subst (λ (m : ℕ). Spans (starting w.literals m) lo hi Q v) e h) k

-- ---- two parts
pub beside_typed-spans : {A B : Type 0} {old : Start} {lo mid hi : ℕ} {R : B → Type 0} (Q : A → Type 0) (a : A) (v : Verdict B) → lo ≤ mid → Q a → Spans old mid hi R v → Spans old lo hi (Each Q R) (beside_typed a v)
beside_typed-spans Q a (typed b w) l q h = record { holds = (h.holds.0, (q, h.holds.1)) }
beside_typed-spans Q a (untold w) l q h = record { holds = h.holds }
beside_typed-spans Q a (depends w) l q h = record { holds = h.holds }
beside_typed-spans {lo = lo} {mid = mid} {hi = hi} Q a (fails g gs w) l q h = record { holds = (h.holds.0, rising-wider mid lo hi hi (g ∷ gs) l (omega arith) h.holds.1) }

pub beside_untold-spans : {A B : Type 0} {old : Start} {lo mid hi : ℕ} {R : B → Type 0} (S : A × B → Type 0) (v : Verdict B) → lo ≤ mid → Spans old mid hi R v → Spans old lo hi S (beside_untold v)
beside_untold-spans S (typed b w) l h = record { holds = h.holds.0 }
beside_untold-spans S (untold w) l h = record { holds = h.holds }
beside_untold-spans S (depends w) l h = record { holds = h.holds }
beside_untold-spans {lo = lo} {mid = mid} {hi = hi} S (fails g gs w) l h = record { holds = (h.holds.0, rising-wider mid lo hi hi (g ∷ gs) l (omega arith) h.holds.1) }

pub beside_depending-spans : {A B : Type 0} {old : Start} {lo mid hi : ℕ} {R : B → Type 0} (S : A × B → Type 0) (v : Verdict B) → lo ≤ mid → Spans old mid hi R v → Spans old lo hi S (beside_depending v)
beside_depending-spans S (typed b w) l h = record { holds = h.holds.0 }
beside_depending-spans S (untold w) l h = record { holds = h.holds }
beside_depending-spans S (depends w) l h = record { holds = h.holds }
beside_depending-spans {lo = lo} {mid = mid} {hi = hi} S (fails g gs w) l h = record { holds = (h.holds.0, rising-wider mid lo hi hi (g ∷ gs) l (omega arith) h.holds.1) }

pub both_by-spans : {A B : Type 0} {old : Start} {lo mid hi : ℕ} {Q : A → Type 0} {R : B → Type 0} (v : Verdict A) (f : Option A → Judging B) → lo ≤ mid → mid ≤ hi →
    Spans old lo mid Q v → ((o : Option A) (w : Walk) → w.next ≡ mid → Spans (since w) mid hi R (f o w)) → Spans old lo hi (Each Q R) (both_by v f)
both_by-spans {Q = Q} (typed a w) f l m h k = beside_typed-spans Q a (f (Some a) w) l h.holds.1 (onward w (f (Some a) w) m h.holds.0 (k (Some a) w h.holds.0.next))
both_by-spans {Q = Q} {R = R} (untold w) f l m h k = beside_untold-spans (Each Q R) (f None w) l (onward w (f None w) m h.holds (k None w h.holds.next))
both_by-spans {Q = Q} {R = R} (depends w) f l m h k = beside_depending-spans (Each Q R) (f None w) l (onward w (f None w) m h.holds (k None w h.holds.next))
both_by-spans {lo = lo} {mid = mid} {hi = hi} (fails g gs w) f l m h k =
    let r = onward w (f None w) m h.holds.0 (k None w h.holds.0.next) in
    record { holds = (behind-stands (f None w) r, rising-append lo mid hi (g ∷ gs) (failing (f None w)) l m h.holds.1 (failing-rises (f None w) r)) }

pub both-spans : {A B : Type 0} {old : Start} {lo mid hi : ℕ} {Q : A → Type 0} {R : B → Type 0} (v : Verdict A) (m : Judging B) → lo ≤ mid → mid ≤ hi →
    Spans old lo mid Q v → ((w : Walk) → w.next ≡ mid → Spans (since w) mid hi R (m w)) → Spans old lo hi (Each Q R) (both v m)
both-spans v m a b h k = both_by-spans v (λ _. m) a b h (λ o. k)

-- ---- a node, where its conditions are met or not
pub fault-stays : {A : Type 0} {lo hi : ℕ} {Q : A → Type 0} (k : TypeKind) (n : Node) → Lies lo hi n → Stays lo hi Q (fault k n)
fault-stays k n l w e = record { holds = (e.stands, (l.0, l.1, tt)) }

pub typed-stays : {A : Type 0} {lo hi : ℕ} {Q : A → Type 0} (a : A) → Q a → Stays lo hi Q (typed a)
typed-stays a q w e = record { holds = (e.stands, q) }

-- where the walk begins
pub typed-first : {A : Type 0} {lo hi : ℕ} {Q : A → Type 0} (a : A) (w : Walk) → w.next ≡ hi → Q a → Spans (since w) lo hi Q (typed a w)
typed-first a w e q = typed-stays a q w (reaches-first w e)

pub untold-stays : {A : Type 0} {lo hi : ℕ} {Q : A → Type 0} → Stays lo hi Q untold
untold-stays w e = record { holds = e.stands }

pub depends-stays : {A : Type 0} {lo hi : ℕ} {Q : A → Type 0} → Stays lo hi Q depends
depends-stays w e = record { holds = e.stands }

pub need-stays : {A : Type 0} {lo hi : ℕ} {Q : A → Type 0} (b : Bool) (k : TypeKind) (n : Node) (m : Judging A) → Lies lo hi n → Stays lo hi Q m → Stays lo hi Q (need b k n m)
need-stays true k n m l h w e = h w e
need-stays false k n m l h w e = fault-stays k n l w e

pub unless_broken-stays : {A : Type 0} {lo hi : ℕ} {Q : A → Type 0} (o : Option TypeKind) (n : Node) (m : Judging A) → Lies lo hi n → Stays lo hi Q m → Stays lo hi Q (unless_broken o n m)
unless_broken-stays None n m l h w e = h w e
unless_broken-stays (Some k) n m l h w e = fault-stays k n l w e

pub need_narrow-stays : {A : Type 0} {lo hi : ℕ} {Q : A → Type 0} (b : Bool) (n : Node) (m : Judging A) → Lies lo hi n → Stays lo hi Q m → Stays lo hi Q (need_narrow b n m)
need_narrow-stays true n m l h w e = h w e
need_narrow-stays false n m l h w e = record { holds = (e.stands, (l.0, l.1, tt)) }

pub cond-stays : {A : Type 0} {lo hi : ℕ} {Q : A → Type 0} (b : Bool) (m k : Judging A) → Stays lo hi Q m → Stays lo hi Q k → Stays lo hi Q (cond b m k)
cond-stays true m k h j = h
cond-stays false m k h j = j

-- ---- what is looked at for its faults alone, and another place of the walk
pub loosely-spans : {A : Type 0} {old : Start} {lo hi : ℕ} {Q : A → Type 0} (v : Verdict A) → Spans old lo hi Q v → Spans old lo hi Anything (loosely v)
loosely-spans (typed a w) h = record { holds = (h.holds.0, tt) }
loosely-spans (untold w) h = record { holds = (h.holds, tt) }
loosely-spans (depends w) h = record { holds = h.holds }
loosely-spans (fails f fs w) h = record { holds = h.holds }

pub moved-spans : {A : Type 0} {old : Start} {lo hi : ℕ} {Q : A → Type 0} (g : Walk → Walk) (v : Verdict A) → Keeps g → Spans old lo hi Q v → Spans old lo hi Q (moved g v)
moved-spans g (typed a w) s h = record { holds = (stands-same w (g w) (s w).0 (s w).1 h.holds.0, h.holds.1) }
moved-spans g (untold w) s h = record { holds = stands-same w (g w) (s w).0 (s w).1 h.holds }
moved-spans g (depends w) s h = record { holds = stands-same w (g w) (s w).0 (s w).1 h.holds }
moved-spans g (fails f fs w) s h = record { holds = (stands-same w (g w) (s w).0 (s w).1 h.holds.0, h.holds.1) }

-- ---- nodes that are taken
pub takes-as : {A : Type 0} {n m : ℕ} (Q : ℕ → ℕ → A → Type 0) (f : Judging A) → n ≡ m → Takes n Q f → Takes m Q f
takes-as Q f e h = subst (λ k. Takes k Q f) e h

-- the node may be a function; the walk of the parts begins behind the node
pub numbered-adds : {A : Type 0} (Q : ℕ → ℕ → A → Type 0) (k : ℕ) (f : Node → Judging A) →
    ((lo hi : ℕ) (n : Node) → n.0 ≡ lo → hi ≡ k + suc lo → (w : Walk) → w.next ≡ suc lo → Spans (starting w.literals lo) lo hi (Q lo hi) (f n w)) → Takes (suc k) Q (numbered f)
numbered-adds Q k f h lo w e =
    let sum : k + suc lo ≡ suc k + lo = omega arith in
    subst (λ (m : ℕ). Spans (starting w.literals m) lo (suc k + lo) (Q lo (suc k + lo)) (numbered f w)) (sym e)
    (h lo (suc k + lo) (node w.next) e (sym sum) (advanced 1 w) (omega (arith, e)))

-- where the node is none
pub numbered-takes : {A : Type 0} (Q : ℕ → ℕ → A → Type 0) (k : ℕ) (f : Node → Judging A) →
    ((lo hi : ℕ) (n : Node) → n.0 ≡ lo → hi ≡ k + suc lo → (w : Walk) → w.next ≡ suc lo → Spans (since w) lo hi (Q lo hi) (f n w)) → Takes (suc k) Q (numbered f)
numbered-takes Q k f h = numbered-adds Q k f (λ lo hi n at sum w e. sooner w.literals w.next lo (f n w) (omega (arith, e)) (h lo hi n at sum w e))

-- a node without parts
pub leaf-takes : {A : Type 0} (Q : ℕ → ℕ → A → Type 0) (f : Node → Judging A) → ((lo : ℕ) (n : Node) → n.0 ≡ lo → Stays lo (suc lo) (Q lo (suc lo)) (f n)) → Takes 1 Q (numbered f)
leaf-takes Q f h lo w e =
    let sum : suc lo ≡ 1 + lo = omega arith in
    subst (λ hi. Spans (since w) lo hi (Q lo hi) (numbered f w)) sum (h lo (node w.next) e (advanced 1 w) (record { start = since w; stands = stands-passed 1 w (omega (arith, e)) }))

pub numbered_many-takes : {A : Type 0} (Q : ℕ → ℕ → A → Type 0) (n k : ℕ) (f : ℕ → Judging A) →
    ((lo hi start : ℕ) → start ≡ lo → hi ≡ k + (n + lo) → (w : Walk) → w.next ≡ n + lo → Spans (since w) lo hi (Q lo hi) (f start w)) → Takes (n + k) Q (numbered_many n f)
numbered_many-takes Q n k f h lo w e =
    let sum : k + (n + lo) ≡ n + k + lo = omega arith in
    sooner w.literals (n + w.next) w.next (numbered_many n f w) (omega arith) (h lo (n + k + lo) w.next e (sym sum) (advanced n w) (omega (arith, e)))

-- what takes no node
pub stays-takes : {A : Type 0} (Q : ℕ → ℕ → A → Type 0) (m : Judging A) → ((lo : ℕ) → Stays lo lo (Q lo lo) m) → Takes 0 Q m
stays-takes Q m h lo w e =
    let sum : lo ≡ 0 + lo = omega arith in
    subst (λ hi. Spans (since w) lo hi (Q lo hi) (m w)) sum (h lo w (reaches-first w e))

-- ---- a list: one more part beside those so far
pub run-spans : {A B C : Type 0} {old : Start} {lo mid hi : ℕ} {Q : A → Type 0} {R : B → Type 0} (S : C → Type 0) (v : Verdict A) (m : Judging B) (added : A × B → Judging C) → lo ≤ mid → mid ≤ hi →
    Spans old lo mid Q v → ((w : Walk) → w.next ≡ mid → Spans (since w) mid hi R (m w)) → ((p : A × B) → Each Q R p → Stays lo hi S (added p)) → Spans old lo hi S (both v m ▷ added)
run-spans S v m added a b h k j = ▷-spans (both v m) added (both-spans v m a b h k) j

-- where it ends is told otherwise
pub spans-to : {A : Type 0} {old : Start} {lo hi hi' : ℕ} {Q : A → Type 0} (v : Verdict A) → hi ≡ hi' → Spans old lo hi Q v → Spans old lo hi' Q v
spans-to {old = old} {lo = lo} {Q = Q} v e h = subst (λ j. Spans old lo j Q v) e h

-- so is what is said of the node of an expression, and both may begin before
pub wider : {old : Start} {lo hi : ℕ} (lo' hi' : ℕ) (v : Verdict Expr) → lo' ≤ lo → hi' ≡ hi → Spans old lo hi (Within lo hi) v → Spans old lo' hi' (Within lo' hi') v
wider {lo = lo} {hi = hi} lo' hi' v l e h = spans-to v (sym e) (weaker lo' (Within lo' hi') v l (λ x i. (omega (arith, i.0), omega (arith, i.1, e))) h)

pub at-within : {old : Start} {lo hi : ℕ} (n : Node) (v : Verdict Expr) → Lies lo hi n → Spans old lo hi (IsAt n) v → Spans old lo hi (Within lo hi) v
at-within {lo = lo} {hi = hi} n v l h = implied (Within lo hi) v (λ x e. subst (λ (m : Node). Lies lo hi m) (sym e) l) h

pub cond-spans : {A : Type 0} {old : Start} {lo hi : ℕ} {Q : A → Type 0} (b : Bool) (v u : Verdict A) → Spans old lo hi Q v → Spans old lo hi Q u → Spans old lo hi Q (cond b v u)
cond-spans true v u h k = h
cond-spans false v u h k = k

-- a node without parts that is typed as itself
pub at-takes : (f : Node → Judging Expr) → ((lo : ℕ) (n : Node) → n.0 ≡ lo → Stays lo (suc lo) (IsAt n) (f n)) → Takes 1 Within (numbered f)
at-takes f h = leaf-takes Within f (λ lo n at w e. at-within n (f n w) (omega (arith, at), omega (arith, at)) (h lo n at w e))
