-- What is found at a part of a tree.
use Rattle.std.specs.Prelude.{◌≡◌, Bool, true, false, List, [], ◌∷◌, ◌++◌, Option, Some, None, Result, Ok, Err}
use Rattle.sx_scope.specs.declared.stop.TypeKind.{TypeKind}
use Rattle.sx_scope.specs.declared.stop.TypeStop.{TypeStop}
use Rattle.sx_scope.specs.declared.stop.TypeStop.TheVariants.{Typing, TooWide, Late, NoMemory}
use Rattle.sx_scope.specs.declared.walk.Found.{Found}
use Rattle.sx_scope.specs.declared.walk.Found.TheVariants as founds
use Rattle.sx_scope.specs.declared.walk.Walk.{Walk}
use Rattle.sx_span.specs.declared.places.Node.{Node}

-- The part is typed; or it hangs on a type that nothing tells; or it depends on a declaration that has failed; or nodes in
-- it fail, each told with the first of its broken conditions, in the order of the nodes. The walk then stands behind the part.
pub data Verdict (A : Type 0) : Type 0 where
  typed : A → Walk → Verdict A
  untold : Walk → Verdict A
  depends : Walk → Verdict A
  fails : TypeStop → List TypeStop → Walk → Verdict A

-- what is found at a part, from where the walk stands before it
abbrev pub Judging : Type 0 → Type 0
Judging A = Walk → Verdict A

abbrev pub failing : {A : Type 0} → Verdict A → List TypeStop
failing (typed a w) = []
failing (untold w) = []
failing (depends w) = []
failing (fails f fs w) = f ∷ fs

abbrev pub behind : {A : Type 0} → Verdict A → Walk
behind (typed a w) = w
behind (untold w) = w
behind (depends w) = w
behind (fails f fs w) = w

abbrev pub is_typed : {A : Type 0} → Verdict A → Bool
is_typed (typed a w) = true
is_typed (untold w) = false
is_typed (depends w) = false
is_typed (fails f fs w) = false

-- A node is judged where its parts are typed.
infixl 10 ◌▷◌
abbrev pub ◌▷◌ : {A B : Type 0} → Verdict A → (A → Judging B) → Verdict B
(typed a w) ▷ f = f a w
(untold w) ▷ f = untold w
(depends w) ▷ f = depends w
(fails g gs w) ▷ f = fails g gs w

-- a second part, beside a first that is typed, is untold, depends or fails
abbrev pub beside_typed : {A B : Type 0} → A → Verdict B → Verdict (A × B)
beside_typed a (typed b w) = typed (a, b) w
beside_typed a (untold w) = untold w
beside_typed a (depends w) = depends w
beside_typed a (fails g gs w) = fails g gs w

abbrev pub beside_untold : {A B : Type 0} → Verdict B → Verdict (A × B)
beside_untold (typed b w) = untold w
beside_untold (untold w) = untold w
beside_untold (depends w) = depends w
beside_untold (fails g gs w) = fails g gs w

abbrev pub beside_depending : {A B : Type 0} → Verdict B → Verdict (A × B)
beside_depending (typed b w) = depends w
beside_depending (untold w) = depends w
beside_depending (depends w) = depends w
beside_depending (fails g gs w) = fails g gs w

-- two parts, of which the second may be asked by the first
abbrev pub both_by : {A B : Type 0} → Verdict A → (Option A → Judging B) → Verdict (A × B)
both_by (typed a w) f = beside_typed a (f (Some a) w)
both_by (untold w) f = beside_untold (f None w)
both_by (depends w) f = beside_depending (f None w)
both_by (fails g gs w) f = fails g (gs ++ failing (f None w)) (behind (f None w))

abbrev pub both : {A B : Type 0} → Verdict A → Judging B → Verdict (A × B)
both v m = both_by v (λ _. m)

-- one condition of a node
abbrev pub need : {A : Type 0} → Bool → TypeKind → Node → Judging A → Judging A
need true kind n m w = m w
need false kind n m w = fails (Typing kind n) [] w

abbrev pub fault : {A : Type 0} → TypeKind → Node → Judging A
fault kind n w = fails (Typing kind n) [] w

-- the first of the conditions of a node that is broken, in the order in which they stand
abbrev pub broken_unless : Bool → TypeKind → Option TypeKind → Option TypeKind
broken_unless true kind later = later
broken_unless false kind later = Some kind

abbrev pub unless_broken : {A : Type 0} → Option TypeKind → Node → Judging A → Judging A
unless_broken None n m w = m w
unless_broken (Some kind) n m w = fails (Typing kind n) [] w

abbrev pub need_narrow : {A : Type 0} → Bool → Node → Judging A → Judging A
need_narrow true n m w = m w
need_narrow false n m w = fails (TooWide n) [] w

-- a part that is judged for its faults alone: what nothing tells doesn't matter
abbrev pub loosely : {A : Type 0} → Verdict A → Verdict (Unit {0})
loosely (typed a w) = typed tt w
loosely (untold w) = typed tt w
loosely (depends w) = depends w
loosely (fails f fs w) = fails f fs w

-- another place of the walk
abbrev pub moved : {A : Type 0} → (Walk → Walk) → Verdict A → Verdict A
moved g (typed a w) = typed a (g w)
moved g (untold w) = untold (g w)
moved g (depends w) = depends (g w)
moved g (fails f fs w) = fails f fs (g w)

abbrev pub found : {A : Type 0} → Found A → Walk → Verdict A
found (founds.Typed a) w = typed a w
found founds.Untold w = untold w
found founds.Depends w = depends w

-- what is typed, if anything
abbrev pub typed_part : {A : Type 0} → Found A → Option A
typed_part (founds.Typed a) = Some a
typed_part founds.Untold = None
typed_part founds.Depends = None

-- What a call answers: what is found where no node fails, with the walk behind the part, or the first failing node.
abbrev pub Answers : {A : Type 0} → Result (Found A) TypeStop → Walk → Verdict A → Type 0
Answers (Ok o) now v = v ≡ found o now
Answers (Err (Typing kind n)) now v = (fs : List TypeStop) × (w : Walk) × (v ≡ fails (Typing kind n) fs w)
Answers (Err (TooWide n)) now v = (fs : List TypeStop) × (w : Walk) × (v ≡ fails (TooWide n) fs w)
Answers (Err (Late at global)) now v = ⊥
Answers (Err NoMemory) now v = Unit {0}
