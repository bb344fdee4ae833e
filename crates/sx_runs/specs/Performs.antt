-- When one machine performs as another.
use Rattle.std.specs.Prelude.{◌≡◌, ◌≤◌, ℕ, List, ◌++◌, Some}
use Rattle.sx_runs.specs.Machine.{Seen, Machine, shown, total_cost, without_events}

-- a list is a prefix of another
pub record IsPrefix {A : Type 0} (a b : List A) : Type 0 where
  pub rest : List A
  pub is : b ≡ a ++ rest

-- b has exactly the outputs and events of a, and a's ending if a has ended
pub record Shows {V E : Type 0} (a b : Seen V E) : Type 0 where
  pub out : b.out ≡ a.out
  pub err : b.err ≡ a.err
  pub events : b.events ≡ a.events
  pub ending : (e : E) → a.ending ≡ Some e → b.ending ≡ Some e

-- each output of b, and its events, is a prefix of a's; if b has ended, then a has ended with equal outputs and the same ending
pub record IsWithin {V E : Type 0} (b a : Seen V E) : Type 0 where
  pub out : IsPrefix b.out a.out
  pub err : IsPrefix b.err a.err
  pub events : IsPrefix b.events a.events
  pub ended : (e : E) → b.ending ≡ Some e → a ≡ b

-- B performs as A: the two outputs and the ending
pub record Performs {S T V W E : Type 0} (A : Machine S V E) (B : Machine T W E) : Type 0 where
  pub forth : (n : ℕ) → (m : ℕ) × Shows (without_events (shown A n)) (without_events (shown B m))
  pub back : (m : ℕ) → (n : ℕ) × IsWithin (without_events (shown B m)) (without_events (shown A n))

-- B performs as A: the two outputs, the events and the ending
pub record PerformsAll {S T V E : Type 0} (A : Machine S V E) (B : Machine T V E) : Type 0 where
  pub forth : (n : ℕ) → (m : ℕ) × Shows (shown A n) (shown B m)
  pub back : (m : ℕ) → (n : ℕ) × IsWithin (shown B m) (shown A n)

-- what A shows, B shows and pays no more, where a step of A from s costs wa s, and one of B from t costs wb t
pub record PerformsWithin {S T V W E : Type 0} (A : Machine S V E) (wa : S → ℕ) (B : Machine T W E) (wb : T → ℕ) : Type 0 where
  pub forth : (n : ℕ) → (m : ℕ) × Shows (without_events (shown A n)) (without_events (shown B m)) × total_cost B wb m ≤ total_cost A wa n
