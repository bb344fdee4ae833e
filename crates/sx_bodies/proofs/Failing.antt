-- Parts that fail.
use Rattle.std.proofs.Common.{◌≡◌, Bool, true, false, true≢false, List, [], Err, refl, ap}
use Rattle.sx_scope.specs.declared.stop.TypeKind.{TypeKind}
use Rattle.sx_scope.specs.declared.stop.TypeStop.{TypeStop}
use Rattle.sx_scope.specs.declared.stop.TypeStop.TheVariants.{Typing, TooWide, Late, NoMemory}
use Rattle.sx_scope.specs.declared.walk.Found.{Found}
use Rattle.sx_scope.specs.declared.walk.Found.TheVariants as founds
use Rattle.sx_scope.specs.declared.walk.Walk.{Walk}
use Rattle.sx_scope.specs.Verdict.{Verdict, fails, Judging, both, beside_typed, beside_untold, beside_depending, found, need, need_narrow, Answers}
use Rattle.sx_span.specs.declared.places.Node.{Node}

-- the first that fails is this one
abbrev pub Fails : {A : Type 0} → TypeStop → Verdict A → Type 0
Fails e v = (fs : List TypeStop) × (w : Walk) × (v ≡ fails e fs w)

-- where a part fails, and then the whole by it, a call may tell so
pub carried : {A B : Type 0} (e : TypeStop) (now now' : Walk) (v : Verdict A) (v' : Verdict B) → ((fs : List TypeStop) (w : Walk) → v ≡ fails e fs w → Fails e v') → Answers {A = A} (Err e) now v → Answers {A = B} (Err e) now' v'
carried (Typing k n) now now' v v' f (fs, w, h) = f fs w h
carried (TooWide n) now now' v v' f (fs, w, h) = f fs w h
carried (Late at global) now now' v v' f h = absurd h
carried NoMemory now now' v v' f h = tt

pub unmet : {A : Type 0} (b : Bool) (k : TypeKind) (n : Node) (m : Judging A) (w : Walk) → b ≡ false → Fails (Typing k n) (need b k n m w)
unmet true k n m w h = absurd (true≢false h)
unmet false k n m w h = ([], w, refl)

pub too_wide : {A : Type 0} (b : Bool) (n : Node) (m : Judging A) (w : Walk) → b ≡ false → Fails (TooWide n) (need_narrow b n m w)
too_wide true n m w h = absurd (true≢false h)
too_wide false n m w h = ([], w, refl)

-- a second part, found or failing
pub both_found : {A B : Type 0} (p : Found A) (w w' : Walk) (m : Judging B) (o : Found B) → m w ≡ found o w' → both (found p w) m ≡ both (found p w) (λ _. found o w')
both_found (founds.Typed a) w w' m o h = ap (beside_typed a) h
both_found founds.Untold w w' m o h = ap beside_untold h
both_found founds.Depends w w' m o h = ap beside_depending h

pub both_fails : {A B : Type 0} (p : Found A) (w w' : Walk) (m : Judging B) (e : TypeStop) (fs : List TypeStop) → m w ≡ fails e fs w' → both (found p w) m ≡ fails e fs w'
both_fails (founds.Typed a) w w' m e fs h = ap (beside_typed a) h
both_fails founds.Untold w w' m e fs h = ap beside_untold h
both_fails founds.Depends w w' m e fs h = ap beside_depending h

pub told : {A : Type 0} (e : TypeStop) (fs : List TypeStop) (w : Walk) (v : Verdict A) → v ≡ fails e fs w → Fails e v
told e fs w v h = (fs, w, h)
