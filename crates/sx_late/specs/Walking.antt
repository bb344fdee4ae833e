-- A walk along what is mentioned, from one statement, over the functions that walks before it haven't seen.
use Rattle.std.specs.List.{list_any, sum_by}
use Rattle.std.specs.Prelude.{◌≡◌, ◌⊎◌, ℕ, ◌+◌, ◌<◌, ◌≤◌, Bool, true, false, List, [], ◌∷◌, ◌++◌, length, if◌then◌else◌, nat_eq, Option, Some, None, MatchOption, ⊤}
use Rattle.sx_span.specs.declared.places.Node.{Node}
use Rattle.sx_typed.specs.declared.program.Function.{Function}
use Rattle.sx_typed.specs.declared.program.Typed.{Typed}
use Rattle.sx_late.specs.Mentions.{Mentions, body_mentions, function_mentions}
use Rattle.sx_late.specs.Reaching.{IsMentioned, Reaches}
use Rattle.sx_late.specs.declared.mentions.Mentioned.{Mentioned}
use Rattle.sx_late.specs.declared.mentions.Mentioned.TheVariants as mentioned

-- ---- what a walk finds
-- the least global, of those from the first that isn't declared, to which the mentions lead
abbrev pub IsLeastReached : Typed → Mentions → ℕ → Option ℕ → Type 0
IsLeastReached typed ms declared None = (g : ℕ) → Reaches typed ms g → (g < declared) ⊎ (length typed.globals ≤ g)
IsLeastReached typed ms declared (Some l) = Reaches typed ms l × (declared ≤ l) × (l < length typed.globals) × ((g : ℕ) → Reaches typed ms g → declared ≤ g → l ≤ g)

-- ---- what is done
-- the function has been seen
abbrev pub is_seen : List ℕ → Node → Bool
is_seen seen n = list_any (nat_eq n.0) seen

abbrev pub IsSeen : List ℕ → Node → Type 0
IsSeen seen n = is_seen seen n ≡ true

-- of so many globals, the one is declared, or none of them, or a lower one that isn't declared has been reached
abbrev pub IsPassed : ℕ → ℕ → Option ℕ → ℕ → Type 0
IsPassed count declared least g = (g < declared) ⊎ MatchOption least (count ≤ g) (λ l. l ≤ g)

abbrev pub IsDone : ℕ → List ℕ → ℕ → Option ℕ → Mentioned → Type 0
IsDone count seen declared least (mentioned.Function n) = IsSeen seen n
IsDone count seen declared least (mentioned.Global g) = IsPassed count declared least g

-- each of the mentions is done or left
abbrev pub AreDone : ℕ → List ℕ → ℕ → Option ℕ → Mentions → Mentions → Type 0
AreDone count seen declared least work ms = (m : Mentioned) → IsMentioned ms m → IsMentioned work m ⊎ IsDone count seen declared least m

-- so is each mention in the functions that have been seen
abbrev pub IsFollowed : Typed → List ℕ → ℕ → Option ℕ → Mentions → Type 0
IsFollowed typed seen declared least work = (n : Node) → IsSeen seen n → AreDone (length typed.globals) seen declared least work (function_mentions typed n)

-- ---- a turn of the walk
-- the least global with one more
abbrev pub Passes : ℕ → ℕ → ℕ → Option ℕ → Option ℕ → Type 0
Passes count declared g least least_after =
    (IsPassed count declared least g × (least_after ≡ least)) ⊎ ((¬ IsPassed count declared least g) × (least_after ≡ Some g))

-- a function that hasn't been seen is followed
abbrev pub Visits : Typed → Node → List ℕ → Mentions → List ℕ → Mentions → Type 0
Visits typed n seen work seen_after work_after =
    (IsSeen seen n × (seen_after ≡ seen) × (work_after ≡ work))
    ⊎ ((is_seen seen n ≡ false) × (seen_after ≡ seen ++ n.0 ∷ []) × (work_after ≡ work ++ function_mentions typed n))

abbrev pub TurnIs : Typed → ℕ → Mentioned → List ℕ → Mentions → Option ℕ → List ℕ → Mentions → Option ℕ → Type 0
TurnIs typed declared (mentioned.Function n) seen work least seen_after work_after least_after = Visits typed n seen work seen_after work_after × (least_after ≡ least)
TurnIs typed declared (mentioned.Global g) seen work least seen_after work_after least_after = (seen_after ≡ seen) × (work_after ≡ work) × Passes (length typed.globals) declared g least least_after

-- what is left leads only where the first mentions lead, and each of those is done or left
pub record IsWalk (typed : Typed) (ms : Mentions) (declared : ℕ) (seen : List ℕ) (least : Option ℕ) (work : Mentions) : Type 0 where
  pub begun : AreDone (length typed.globals) seen declared least work ms
  pub followed : IsFollowed typed seen declared least work
  pub leads : (m : Mentioned) → IsMentioned work m → (g : ℕ) → Reaches typed (m ∷ []) g → Reaches typed ms g
  pub found : MatchOption least ⊤ (λ l. Reaches typed ms l × (declared ≤ l) × (l < length typed.globals))

-- each turn leaves less to do
abbrev pub mentions_unseen : Typed → List ℕ → Function → ℕ
mentions_unseen typed seen f = if is_seen seen f.node then 0 else length (body_mentions typed f)

abbrev pub left_to_do : Typed → List ℕ → Mentions → ℕ
left_to_do typed seen work = sum_by (mentions_unseen typed seen) typed.functions + length work
