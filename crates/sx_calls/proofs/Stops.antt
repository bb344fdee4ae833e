-- An argument that fails where it stands.
use Rattle.std.proofs.Common.{◌≡◌, ◌∙◌, List, Err, refl, ap}
use Rattle.sx_span.specs.declared.places.Node.{Node}
use Rattle.sx_typed.specs.declared.code.Expr.{Expr}
use Rattle.sx_scope.specs.declared.stop.TypeStop.{TypeStop}
use Rattle.sx_scope.specs.declared.stop.TypeStop.TheVariants.{Typing, TooWide, Late, NoMemory}
use Rattle.sx_scope.specs.declared.walk.Walk.{Walk}
use Rattle.sx_scope.specs.Verdict.{Verdict, fails, Answers}
use Rattle.sx_calls.specs.declared.passed.Slot.{Slot}
use Rattle.sx_calls.specs.declared.passed.Slot.TheVariants as slots
use Rattle.sx_calls.specs.Calls.{settled}

settled_stop : (s : Slot) (n : Node) (f : TypeStop) (fs : List TypeStop) (w : Walk) → settled s n (fails f fs w) ≡ fails f fs w
settled_stop slots.Loose n f fs w = refl
settled_stop (slots.For t) n f fs w = refl
settled_stop (slots.Property k t) n f fs w = refl
settled_stop (slots.Failing k) n f fs w = refl
settled_stop slots.Unknown n f fs w = refl
settled_stop slots.Printed n f fs w = refl

pub settled_fails : (e : TypeStop) (w : Walk) (s : Slot) (n : Node) (v : Verdict Expr) → Answers (Err e) w v → Answers (Err e) w (settled s n v)
settled_fails (Typing k m) w s n v h = (h.0, h.1, ap (settled s n) h.2 ∙ settled_stop s n (Typing k m) h.0 h.1)
settled_fails (TooWide m) w s n v h = (h.0, h.1, ap (settled s n) h.2 ∙ settled_stop s n (TooWide m) h.0 h.1)
settled_fails (Late a g) w s n v h = h
settled_fails NoMemory w s n v h = tt
