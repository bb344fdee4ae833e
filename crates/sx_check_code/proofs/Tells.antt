-- What is told of what is judged, and in what order nodes fail.
use Rattle.std.proofs.Common.{◌≡◌, ◌+◌, ℕ, Result, Ok, Err}
use Rattle.sx_span.specs.declared.places.Node.{Node}
use Rattle.sx_scope.specs.declared.stop.TypeStop.{TypeStop}
use Rattle.sx_scope.specs.declared.stop.TypeStop.TheVariants.{Typing, TooWide, Late, NoMemory}
use Rattle.sx_scope.specs.declared.walk.Found.{Found}
use Rattle.sx_scope.specs.declared.walk.Found.TheVariants as founds
use Rattle.sx_scope.specs.declared.walk.Walk.{Walk}
use Rattle.sx_scope.specs.Verdict.{Answers, Judging, Verdict, typed, untold, depends, fails}
use Rattle.sx_order.specs.Order.{Start, since, Spanned, Takes}
use Rattle.sx_check_code.specs.Checks.{FailInOrder, Tells}
use Rattle.sx_check_code.specs.Told.{told}

pub told_tells : {A : Type 0} (r : Result (Found A) TypeStop) (w : Walk) (v : Verdict A) → Answers r w v → Tells (told r) v
told_tells (Ok (founds.Typed a)) w v h = (w, h)
told_tells (Ok founds.Untold) w v h = tt
told_tells (Ok founds.Depends) w v h = (w, h)
told_tells (Err (Typing k n)) w v h = h
told_tells (Err (TooWide n)) w v h = h
told_tells (Err (Late at global)) w v h = h
told_tells (Err NoMemory) w v h = tt

spanned_in_order : {A : Type 0} (old : Start) (n : Node) (count : ℕ) (Q : A → Type 0) (v : Verdict A) → Spanned old n.0 (count + n.0) Q v → FailInOrder n count v
spanned_in_order old n count Q (typed a w) h = tt
spanned_in_order old n count Q (untold w) h = tt
spanned_in_order old n count Q (depends w) h = tt
spanned_in_order old n count Q (fails f fs w) (behind, rising) = rising

pub takes_in_order : {A : Type 0} (n : Node) (count : ℕ) (Q : ℕ → ℕ → A → Type 0) (m : Judging A) (w : Walk) → Takes count Q m → w.next ≡ n.0 → FailInOrder n count (m w)
takes_in_order n count Q m w takes here = spanned_in_order (since w) n count (Q n.0 (count + n.0)) (m w) (takes n.0 w here).holds
