-- Machines that take one step after another, and what they have shown.
use Rattle.std.specs.Prelude.{ℕ, zero, suc, ◌+◌, List, [], Option, Some, None}

-- what can be seen of a state: two outputs, a list of events, and the ending if there is one
pub record Seen (V E : Type 0) : Type 0 where
  pub out : List ℕ
  pub err : List ℕ
  pub events : List V
  pub ending : Option E

-- a machine: where it starts, what follows a state that has not ended, and what a state shows
pub record Machine (S V E : Type 0) : Type 0 where
  pub start : S
  pub next : S → S
  pub see : S → Seen V E

-- an ended state stays
abbrev pub unless_ended : {S E : Type 0} → Option E → S → S → S
unless_ended None old new = new
unless_ended (Some e) old new = old

abbrev pub step : {S V E : Type 0} (M : Machine S V E) → S → S
step M s = unless_ended (M.see s).ending s (M.next s)

-- the state after n steps from this one
abbrev pub steps : {S V E : Type 0} (M : Machine S V E) → ℕ → S → S
steps M zero s = s
steps M (suc n) s = steps M n (step M s)

-- the state after n steps from the start
abbrev pub after : {S V E : Type 0} (M : Machine S V E) → ℕ → S
after M n = steps M n M.start

-- what the machine has shown after n steps
abbrev pub shown : {S V E : Type 0} (M : Machine S V E) → ℕ → Seen V E
shown M n = M.see (after M n)

-- what the first n steps from a state cost, where a step from a state s costs w s
abbrev pub cost_of : {S V E : Type 0} (M : Machine S V E) → (S → ℕ) → ℕ → S → ℕ
cost_of M w zero s = 0
cost_of M w (suc n) s = w s + cost_of M w n (step M s)

-- what the first n steps cost
abbrev pub total_cost : {S V E : Type 0} (M : Machine S V E) → (S → ℕ) → ℕ → ℕ
total_cost M w n = cost_of M w n M.start

-- the same without the events
abbrev pub without_events : {V E : Type 0} → Seen V E → Seen (Unit {0}) E
without_events s = record { out = s.out; err = s.err; events = []; ending = s.ending }

-- the same machine without its events
abbrev pub eventless : {S V E : Type 0} → Machine S V E → Machine S (Unit {0}) E
eventless M = record { start = M.start; next = M.next; see = λ s. without_events (M.see s) }

abbrev pub option_as : {E F : Type 0} → (E → F) → Option E → Option F
option_as f None = None
option_as f (Some e) = Some (f e)

-- the same with the ending named anew
abbrev pub end_as : {V E F : Type 0} → (E → F) → Seen V E → Seen V F
end_as f s = record { out = s.out; err = s.err; events = s.events; ending = option_as f s.ending }

-- the same machine with its endings named anew
abbrev pub with_endings : {S V E F : Type 0} → (E → F) → Machine S V E → Machine S V F
with_endings f M = record { start = M.start; next = M.next; see = λ s. end_as f (M.see s) }

-- a state with a annotation of how it was come to
pub record Annotated (S T : Type 0) : Type 0 where
  pub now : S
  pub annotation : T

-- the same machine, which keeps a annotation of its steps
abbrev pub annotated : {S V E T : Type 0} (M : Machine S V E) → T → (T → S → T) → Machine (Annotated S T) V E
annotated M t f =
    record {
      start = record { now = M.start; annotation = t };
      next = λ s. record { now = M.next s.now; annotation = f s.annotation s.now };
      see = λ s. M.see s.now;
    }
