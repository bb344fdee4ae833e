-- A node that may fail itself before its parts do.
use Rattle.std.proofs.Common.{◌≡◌, ℕ, suc, ◌+◌, ◌≤◌, List, [], ◌∷◌, ◌++◌, sym, arith}
use Rattle.sx_scope.specs.declared.stop.TypeStop.{TypeStop}
use Rattle.sx_scope.specs.declared.walk.Walk.{Walk}
use Rattle.sx_scope.specs.Verdict.{Verdict, typed, untold, depends, fails, failing, Judging, both}
use Rattle.sx_order.specs.Order.{number_of, Rising, Start, since, Spans, Takes, Anything, Anywhere, Each}
use Rattle.sx_order.proofs.Rising.{rising-wider}
use Rattle.sx_order.proofs.Spans.{beside_typed-spans, beside_untold-spans, beside_depending-spans, failing-rises, behind-stands, onward, earlier, spans-to}

-- what fails first fails at the node, and the others may fail there too
pub own-append : (lo hi : ℕ) (fs gs : List TypeStop) (m : ℕ) → m ≤ lo → suc lo ≤ hi → Rising m (suc lo) fs → Rising lo hi gs → Rising m hi (fs ++ gs)
own-append lo hi [] gs m l a h k = rising-wider lo m hi hi gs l (omega arith) k
own-append lo hi (f ∷ fs) gs m l a h k =
    (h.0, omega (arith, h.1, a), own-append lo hi fs gs (number_of f) (omega (arith, h.1)) a h.2 k)

pub own_both-spans : {A B : Type 0} {old : Start} {lo hi : ℕ} {Q : A → Type 0} {R : B → Type 0} (v : Verdict A) (m : Judging B) → suc lo ≤ hi →
    Spans old lo (suc lo) Q v → ((w : Walk) → w.next ≡ suc lo → Spans (since w) lo hi R (m w)) → Spans old lo hi (Each Q R) (both v m)
own_both-spans {Q = Q} (typed a w) m b h k = beside_typed-spans Q a (m w) (omega arith) h.holds.1 (onward w (m w) b h.holds.0 (k w h.holds.0.next))
own_both-spans {Q = Q} {R = R} (untold w) m b h k = beside_untold-spans (Each Q R) (m w) (omega arith) (onward w (m w) b h.holds (k w h.holds.next))
own_both-spans {Q = Q} {R = R} (depends w) m b h k = beside_depending-spans (Each Q R) (m w) (omega arith) (onward w (m w) b h.holds (k w h.holds.next))
own_both-spans {lo = lo} {hi = hi} (fails g gs w) m b h k =
    let r = onward w (m w) b h.holds.0 (k w h.holds.0.next) in
    record { holds = (behind-stands (m w) r, own-append lo hi (g ∷ gs) (failing (m w)) lo (omega arith) b h.holds.1 (failing-rises (m w) r)) }

-- the first part of a node, whose walk begins behind the node
pub first-spans : {A : Type 0} (m : Judging A) (k lo hi : ℕ) (w : Walk) → hi ≡ k + suc lo → w.next ≡ suc lo → Takes k Anywhere m → Spans (since w) lo hi Anything (m w)
first-spans m k lo hi w s e t = earlier lo (m w) (omega arith) (spans-to (m w) (sym s) (t (suc lo) w e))

-- a part behind others
pub later-spans : {A : Type 0} (m : Judging A) (k mid hi : ℕ) (w : Walk) → hi ≡ k + mid → w.next ≡ mid → Takes k Anywhere m → Spans (since w) mid hi Anything (m w)
later-spans m k mid hi w s e t = spans-to (m w) (sym s) (t mid w e)
