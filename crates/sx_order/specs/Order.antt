-- Where the failing nodes of a judgement lie: in walking order their numbers rise, from the node that the walk began at to the one
-- behind it. So do the nodes of the functions that the walk finds.
use Rattle.std.specs.Prelude.{◌≡◌, ℕ, suc, ◌+◌, ◌≤◌, ◌<◌, List, [], ◌∷◌, ◌++◌}
use Rattle.sx_span.specs.declared.places.Node.{Node}
use Rattle.sx_typed.specs.declared.code.Expr.{Expr}
use Rattle.sx_typed.specs.declared.program.Function.{Function}
use Rattle.sx_scope.specs.declared.stop.TypeStop.{TypeStop}
use Rattle.sx_scope.specs.declared.stop.TypeStop.TheVariants.{Typing, TooWide, Late, NoMemory}
use Rattle.sx_scope.specs.declared.walk.Walk.{Walk}
use Rattle.sx_scope.specs.Verdict.{Verdict, typed, untold, depends, fails, Judging}

-- the number of the node that fails
abbrev pub number_of : TypeStop → ℕ
number_of (Typing k n) = n.0
number_of (TooWide n) = n.0
number_of (Late at g) = at.0
number_of NoMemory = 0

-- a node from number lo on and before number hi
abbrev pub Lies : ℕ → ℕ → Node → Type 0
Lies lo hi n = (lo ≤ n.0) × (n.0 < hi)

-- failing nodes, none before the one ahead of it; several faults may stand at one node
abbrev pub Rising : ℕ → ℕ → List TypeStop → Type 0
Rising lo hi [] = Unit {0}
Rising lo hi (f ∷ fs) = (lo ≤ number_of f) × (number_of f < hi) × Rising (number_of f) hi fs

-- functions from node lo on and before node hi, each at a greater node than the one ahead of it
abbrev pub FunctionsRise : ℕ → ℕ → List Function → Type 0
FunctionsRise lo hi [] = Unit {0}
FunctionsRise lo hi (f ∷ fs) = (lo ≤ f.node.0) × (f.node.0 < hi) × FunctionsRise (suc f.node.0) hi fs

-- where a walk begins: the functions found before it, and the node from which on it may find more
pub record Start : Type 0 where
  pub functions : List Function
  pub from : ℕ

abbrev pub starting : List Function → ℕ → Start
starting functions from = record { functions = functions; from = from }

-- it begins where this walk stands
abbrev pub since : Walk → Start
since w = starting w.literals w.next

-- Behind the functions found before are those found since, which rise before node hi.
pub record Grows (old : Start) (hi : ℕ) (functions : List Function) : Type 0 where
  pub found : List Function
  pub grown : functions ≡ old.functions ++ found
  pub rise : FunctionsRise old.from hi found

-- a walk that began there stands at node hi
pub record Stands (old : Start) (hi : ℕ) (w : Walk) : Type 0 where
  pub next : w.next ≡ hi
  pub begun : old.from ≤ hi
  pub grows : Grows old hi w.literals

-- so it stands, wherever it began
pub record Reaches (hi : ℕ) (w : Walk) : Type 0 where
  pub start : Start
  pub stands : Stands start hi w

abbrev pub Spanned : {A : Type 0} → Start → ℕ → ℕ → (A → Type 0) → Verdict A → Type 0
Spanned old lo hi Q (typed a w) = Stands old hi w × Q a
Spanned old lo hi Q (untold w) = Stands old hi w
Spanned old lo hi Q (depends w) = Stands old hi w
Spanned old lo hi Q (fails f fs w) = Stands old hi w × Rising lo hi (f ∷ fs)

-- The walk that began there then stands at node hi, what is typed is as Q says, and the nodes that fail lie from lo to before hi,
-- in order.
pub record Spans {A : Type 0} (old : Start) (lo hi : ℕ) (Q : A → Type 0) (v : Verdict A) : Type 0 where
  pub holds : Spanned old lo hi Q v

-- what takes no node and finds no function, where the walk stands at node hi
abbrev pub Stays : {A : Type 0} → ℕ → ℕ → (A → Type 0) → Judging A → Type 0
Stays lo hi Q m = (w : Walk) (e : Reaches hi w) → Spans e.start lo hi Q (m w)

-- what takes so many nodes, wherever the walk stands; Q is told from where to where
abbrev pub Takes : {A : Type 0} → ℕ → (ℕ → ℕ → A → Type 0) → Judging A → Type 0
Takes n Q m = (lo : ℕ) (w : Walk) → w.next ≡ lo → Spans (since w) lo (n + lo) (Q lo (n + lo)) (m w)

-- a change of the walk that keeps its next node and the functions found
abbrev pub Keeps : (Walk → Walk) → Type 0
Keeps g = (w : Walk) → ((g w).next ≡ w.next) × ((g w).literals ≡ w.literals)

-- what is said of what is typed: nothing; that its node lies there; that it has this node; both of two parts
abbrev pub Anything : {A : Type 0} → A → Type 0
Anything a = Unit {0}

abbrev pub Anywhere : {A : Type 0} → ℕ → ℕ → A → Type 0
Anywhere lo hi a = Unit {0}

abbrev pub Within : ℕ → ℕ → Expr → Type 0
Within lo hi e = Lies lo hi e.node

abbrev pub IsAt : Node → Expr → Type 0
IsAt n e = e.node ≡ n

abbrev pub Each : {A B : Type 0} → (A → Type 0) → (B → Type 0) → A × B → Type 0
Each Q R p = Q p.0 × R p.1

-- so many nodes in all are taken by these, one after another
abbrev pub AllTake : {A : Type 0} → ℕ → List (Judging A) → Type 0
AllTake n [] = n ≡ 0
AllTake n (m ∷ ms) = (k : ℕ) × (j : ℕ) × (n ≡ k + j) × Takes k Anywhere m × AllTake j ms
