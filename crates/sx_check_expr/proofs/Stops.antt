-- Parts that fail, and those that go on.
use Rattle.std.proofs.Common.{◌≡◌, List, ◌++◌, Option, None, Err, refl, sym, ap, ◌∙◌}
use Rattle.sx_scope.specs.declared.stop.TypeStop.{TypeStop}
use Rattle.sx_scope.specs.declared.declarations.Declarations.{Declarations}
use Rattle.sx_scope.specs.declared.walk.Callee.{Callee}
use Rattle.sx_scope.specs.declared.walk.Found.{Found}
use Rattle.sx_scope.specs.declared.walk.Found.TheVariants as founds
use Rattle.sx_scope.specs.declared.walk.Walk.{Walk}
use Rattle.sx_scope.specs.Verdict.{Verdict, fails, failing, behind, Judging, ◌▷◌, both, both_by, beside_typed, beside_untold, beside_depending, found, typed_part, Answers}
use Rattle.sx_calls.specs.Calls.{callee_in}
use Rattle.sx_bodies.proofs.Failing.{Fails, carried, both_fails}

-- what follows stays failing, and what is so far leads to the whole
pub run_stops : {A B : Type 0} (e : TypeStop) (now now' : Walk) (run : Verdict A → Verdict B) (v : Verdict A) (whole : Verdict B) → ((fs : List TypeStop) (w : Walk) → Fails e (run (fails e fs w))) → run v ≡ whole → Answers {A = A} (Err e) now v → Answers {A = B} (Err e) now' whole
run_stops e now now' run v whole stays so_far =
    carried e now now' v whole (λ fs w h. let r : Fails e (run (fails e fs w)) = stays fs w in (r.0, r.1, sym so_far ∙ ap run h ∙ r.2))

pub then_stops : {A B : Type 0} (e : TypeStop) (now now' : Walk) (f : A → Judging B) (v : Verdict A) → Answers {A = A} (Err e) now v → Answers {A = B} (Err e) now' (v ▷ f)
then_stops e now now' f v = run_stops e now now' (λ x. x ▷ f) v (v ▷ f) (λ fs w. (fs, w, refl)) refl

-- a second part that fails
pub second_stops : {A B C : Type 0} (e : TypeStop) (now now' : Walk) (o : Found A) (w : Walk) (m : Judging B) (f : A × B → Judging C) → Answers {A = B} (Err e) now (m w) → Answers {A = C} (Err e) now' (both (found o w) m ▷ f)
second_stops e now now' o w m f =
    carried e now now' (m w) (both (found o w) m ▷ f) (λ fs v h. (fs, v, ap (λ x. x ▷ f) (both_fails o w v m e fs h)))

-- a second part that is asked by the first
by_found : {A B : Type 0} (o : Found A) (w : Walk) (f : Option A → Judging B) → both_by (found o w) f ≡ both (found o w) (f (typed_part o))
by_found (founds.Typed a) w f = refl
by_found founds.Untold w f = refl
by_found founds.Depends w f = refl

pub both_by_found : {A B : Type 0} (o : Found A) (w v : Walk) (f : Option A → Judging B) (r : Found B) → f (typed_part o) w ≡ found r v → both_by (found o w) f ≡ both (found o v) (λ _. found r v)
both_by_found (founds.Typed a) w v f r h = ap (beside_typed a) h
both_by_found founds.Untold w v f r h = ap beside_untold h
both_by_found founds.Depends w v f r h = ap beside_depending h

pub asked_stops : {A B C : Type 0} (e : TypeStop) (now now' : Walk) (o : Found A) (w : Walk) (f : Option A → Judging B) (g : A × B → Judging C) → Answers {A = B} (Err e) now (f (typed_part o) w) → Answers {A = C} (Err e) now' (both_by (found o w) f ▷ g)
asked_stops e now now' o w f g =
    carried e now now' (f (typed_part o) w) (both_by (found o w) f ▷ g) (λ fs v h. (fs, v, ap (λ x. x ▷ g) (by_found o w f ∙ both_fails o w v (f (typed_part o)) e fs h)))

-- a first part that fails
pub first_stops : {A B C : Type 0} (e : TypeStop) (now now' : Walk) (v : Verdict A) (f : Option A → Judging B) (g : A × B → Judging C) → Answers {A = A} (Err e) now v → Answers {A = C} (Err e) now' (both_by v f ▷ g)
first_stops e now now' v f g =
    run_stops e now now' (λ x. both_by x f ▷ g) v (both_by v f ▷ g) (λ fs w. ((fs ++ failing (f None w)), behind (f None w), refl)) refl

-- a second part that is found, wherever the first ended
pub beside_found : {A B : Type 0} (o : Found A) (w v : Walk) (m : Judging B) (r : Found B) → m w ≡ found r v → both (found o w) m ≡ both (found o v) (λ _. found r v)
beside_found (founds.Typed a) w v m r h = ap (beside_typed a) h
beside_found founds.Untold w v m r h = ap beside_untold h
beside_found founds.Depends w v m r h = ap beside_depending h

pub callee_found : (d : Declarations) (o : Found Callee) (w : Walk) → callee_in d (found o w) ≡ typed_part o
callee_found d (founds.Typed a) w = refl
callee_found d founds.Untold w = refl
callee_found d founds.Depends w = refl
