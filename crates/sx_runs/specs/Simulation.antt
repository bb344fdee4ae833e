-- What is to be shown, state by state, so that one machine performs as another.
use Rattle.std.specs.Prelude.{◌≡◌, ◌<◌, ◌≤◌, ◌⊎◌, ℕ, suc, Some, None}
use Rattle.sx_runs.specs.Machine.{Seen, Machine, steps, after, cost_of}
use Rattle.sx_runs.specs.Performs.{IsPrefix}

-- what was shown has only grown
pub record Grown {V E : Type 0} (old new : Seen V E) : Type 0 where
  pub out : IsPrefix old.out new.out
  pub err : IsPrefix old.err new.err
  pub events : IsPrefix old.events new.events

-- outputs and events only grow
pub record IsGrowing {S V E : Type 0} (M : Machine S V E) : Type 0 where
  pub grows : (s : S) → Grown (M.see s) (M.see (M.next s))

-- how the states of two machines, A and B, are tied together
pub record Coupling (S T : Type 0) : Type 1 where
  -- what holds of each state that A comes to
  pub holds : S → Type 0
  -- which states belong together
  pub relates : S → T → Type 0
  -- how far A is from a step that B answers by a step
  pub measure : S → ℕ
  -- what a step of A costs, and one of B
  pub cost : S → ℕ
  pub price : T → ℕ
  -- what holds of A's state and of each of B's while B answers A's next step
  pub meanwhile : S → T → Type 0

-- from b the machine comes to `to` in `count` steps, which cost `most` at most, and each of which starts where P holds
pub record Reaches {T V E : Type 0} (B : Machine T V E) (price : T → ℕ) (P : T → Type 0) (b to : T) (count most : ℕ) : Type 0 where
  pub is : steps B count b ≡ to
  pub cost : cost_of B price count b ≤ most
  pub through : (j : ℕ) → j < count → P (steps B j b)

-- B's answer to one step of A from a: a number of B's steps from b, to a state related again
pub record Reply {S T V E : Type 0} (A : Machine S V E) (B : Machine T V E) (t : Coupling S T) (a : S) (b : T) : Type 0 where
  pub count : ℕ
  pub most : ℕ
  pub to : T
  pub reaches : Reaches B t.price (t.meanwhile a) b to count most
  pub related : t.relates (A.next a) to
  -- no step of B only where A has come nearer to a step that is answered
  pub falls : count ≡ 0 → t.measure (A.next a) < t.measure a
  -- B's steps cost no more than A's
  pub within : most ≤ t.cost a

-- each step of A is answered by B
pub record Simulation {S T V E : Type 0} (A : Machine S V E) (B : Machine T V E) (t : Coupling S T) : Type 0 where
  pub reached : (n : ℕ) → t.holds (after A n)
  pub grows : IsGrowing B
  pub start : t.relates A.start B.start
  pub see : (a : S) (b : T) → t.holds a → t.relates a b → A.see a ≡ B.see b
  pub reply : (a : S) (b : T) → t.holds a → t.holds (A.next a) → t.relates a b → (A.see a).ending ≡ None → Reply A B t a b
  pub ended : (a : S) (b : T) (e : E) → t.holds a → t.relates a b → (A.see a).ending ≡ Some e → t.meanwhile a b

-- B's answer to some steps of A at once: each state of A on the way shows what a shows, or what it comes to shows
pub record BlockReply {S T V E : Type 0} (A : Machine S V E) (B : Machine T V E) (t : Coupling S T) (a : S) (b : T) : Type 0 where
  -- one step of A, and so many more
  pub more : ℕ
  pub count : ℕ
  pub most : ℕ
  pub to : T
  pub reaches : Reaches B t.price (t.meanwhile a) b to count most
  pub related : t.relates (steps A (suc more) a) to
  pub between : (i : ℕ) → i ≤ more → A.see (steps A i a) ≡ A.see a ⊎ A.see (steps A i a) ≡ A.see (steps A (suc more) a)
  pub falls : count ≡ 0 → t.measure (steps A (suc more) a) < t.measure a
  -- the first of A's steps pays
  pub within : most ≤ t.cost a

-- each step of A is answered by B, or some steps at once
pub record BlockSimulation {S T V E : Type 0} (A : Machine S V E) (B : Machine T V E) (t : Coupling S T) : Type 0 where
  pub reached : (n : ℕ) → t.holds (after A n)
  pub grows : IsGrowing B
  pub start : t.relates A.start B.start
  pub see : (a : S) (b : T) → t.holds a → t.relates a b → A.see a ≡ B.see b
  pub reply : (a : S) (b : T) → ((i : ℕ) → t.holds (steps A i a)) → t.relates a b → (A.see a).ending ≡ None → BlockReply A B t a b
  pub ended : (a : S) (b : T) (e : E) → t.holds a → t.relates a b → (A.see a).ending ≡ Some e → t.meanwhile a b
