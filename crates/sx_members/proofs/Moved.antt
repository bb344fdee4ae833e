-- Parts at another place of the walk.
use Rattle.std.proofs.Common.{Result, Ok, Err, ap}
use Rattle.sx_scope.specs.declared.stop.TypeStop.{TypeStop}
use Rattle.sx_scope.specs.declared.stop.TypeStop.TheVariants.{Typing, TooWide, Late, NoMemory}
use Rattle.sx_scope.specs.declared.walk.Found.{Found}
use Rattle.sx_scope.specs.declared.walk.Found.TheVariants as founds
use Rattle.sx_scope.specs.declared.walk.Walk.{Walk}
use Rattle.sx_scope.specs.Verdict.{Verdict, moved, Answers}

pub moved_answers : {A : Type 0} (r : Result (Found A) TypeStop) (now : Walk) (v : Verdict A) (g : Walk → Walk) → Answers r now v → Answers r (g now) (moved g v)
moved_answers (Ok (founds.Typed a)) now v g h = ap (moved g) h
moved_answers (Ok founds.Untold) now v g h = ap (moved g) h
moved_answers (Ok founds.Depends) now v g h = ap (moved g) h
moved_answers (Err (Typing k n)) now v g (fs, w, h) = (fs, g w, ap (moved g) h)
moved_answers (Err (TooWide n)) now v g (fs, w, h) = (fs, g w, ap (moved g) h)
moved_answers (Err (Late at global)) now v g h = absurd h
moved_answers (Err NoMemory) now v g h = tt
