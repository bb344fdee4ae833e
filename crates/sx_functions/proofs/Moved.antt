-- Parts at another place of the walk, and what is judged behind them.
use Rattle.std.proofs.Common.{Result, Ok, Err, ap}
use Rattle.sx_scope.specs.declared.stop.TypeStop.{TypeStop}
use Rattle.sx_scope.specs.declared.stop.TypeStop.TheVariants.{Typing, TooWide, Late, NoMemory}
use Rattle.sx_scope.specs.declared.walk.Found.{Found}
use Rattle.sx_scope.specs.declared.walk.Found.TheVariants as founds
use Rattle.sx_scope.specs.declared.walk.Walk.{Walk}
use Rattle.sx_scope.specs.Verdict.{Verdict, Judging, ◌▷◌, moved, Answers}
use Rattle.sx_bodies.proofs.Failing.{carried}

-- what a call answers, at another place of the walk
pub moved_answers : {A : Type 0} (r : Result (Found A) TypeStop) (now : Walk) (v : Verdict A) (g : Walk → Walk) → Answers r now v → Answers r (g now) (moved g v)
moved_answers (Ok (founds.Typed a)) now v g h = ap (moved g) h
moved_answers (Ok founds.Untold) now v g h = ap (moved g) h
moved_answers (Ok founds.Depends) now v g h = ap (moved g) h
moved_answers (Err (Typing k n)) now v g (fs, w, h) = (fs, g w, ap (moved g) h)
moved_answers (Err (TooWide n)) now v g (fs, w, h) = (fs, g w, ap (moved g) h)
moved_answers (Err (Late at global)) now v g h = absurd h
moved_answers (Err NoMemory) now v g h = tt

-- what is judged where a part is typed fails with it
pub after_failing : {A B : Type 0} (e : TypeStop) (now : Walk) (v : Verdict A) (f : A → Judging B) → Answers {A = A} (Err e) now v → Answers {A = B} (Err e) now (v ▷ f)
after_failing e now v f h = carried e now now v (v ▷ f) (λ fs w k. (fs, w, ap (λ x. x ▷ f) k)) h
