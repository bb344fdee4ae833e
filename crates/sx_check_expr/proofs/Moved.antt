-- What is found at another place of the walk.
use Rattle.std.proofs.Common.{◌≡◌, true≢false, Result, Ok, Err, IfOk, IfErr, IsOk, OnOk, sym, ap, subst, ◌∙◌}
use Rattle.sx_scope.specs.declared.stop.TypeStop.{TypeStop}
use Rattle.sx_scope.specs.declared.stop.TypeStop.TheVariants.{NoMemory}
use Rattle.sx_scope.specs.declared.walk.Found.{Found}
use Rattle.sx_scope.specs.declared.walk.Found.TheVariants as founds
use Rattle.sx_scope.specs.declared.walk.Walk.{Walk}
use Rattle.sx_scope.specs.Verdict.{Verdict, found, moved, Answers}
use Rattle.sx_bodies.proofs.Failing.{carried}

-- what fails is another place of the walk away
pub moved_fails : {A : Type 0} (e : TypeStop) (now after : Walk) (v : Verdict A) (g : Walk → Walk) → Answers {A = A} (Err e) now v → Answers {A = A} (Err e) after (moved g v)
moved_fails e now after v g h = carried e now after v (moved g v) (λ fs w f. (fs, g w, ap (moved g) f)) h

pub moved_found : {A : Type 0} (o : Found A) (w : Walk) (v : Verdict A) (g : Walk → Walk) → v ≡ found o w → moved g v ≡ found o (g w)
moved_found (founds.Typed a) w v g h = ap (moved g) h
moved_found founds.Untold w v g h = ap (moved g) h
moved_found founds.Depends w v g h = ap (moved g) h

-- what was found, unless memory ran out at the other place
pub full_or_moved : {A E : Type 0} (r : Result (Found A) TypeStop) (o : Found A) (room : Result (Unit {0}) E) (now w : Walk) (v : Verdict A) (g : Walk → Walk) → IfOk r (λ p. p ≡ o) → IfOk r (λ p. IsOk room) → IfErr r (λ e. e ≡ NoMemory) → OnOk room (now ≡ g w) → v ≡ found o w → Answers r now (moved g v)
full_or_moved (Ok p) o (Ok u) now w v g is room stop moved_to at = moved_found o w v g at ∙ ap (found o) (sym moved_to) ∙ ap (λ x. found x now) (sym is)
full_or_moved (Ok p) o (Err e) now w v g is room stop moved_to at = absurd (true≢false (sym room))
full_or_moved (Err e) o room now w v g is full stop moved_to at = subst (λ (x : TypeStop). Answers (Err x) now (moved g v)) (sym stop) tt
