-- The source machine of a text of prints: pending tasks, what was written, and the ending.
use Rattle.std.specs.Prelude.{ℕ, List, [], ◌∷◌, ◌++◌, map, Option, Some, None}
use Rattle.sx_runs.specs.Machine.{Machine}
use Rattle.sx_runs.specs.Ending.{Ending, Status}
use Rattle.swiftx.specs.Prints.{line_feed}

pub data Task : Type 0 where
  -- the top-level code
  Enter : (literals : List (List ℕ)) → Task
  -- a statement
  Do : (literal : List ℕ) → Task
  -- writes a line to the first output
  Print : (literal : List ℕ) → Task

pub record SourceState : Type 0 where
  pub tasks : List Task
  pub out : List ℕ
  pub ending : Option Ending

abbrev pub going : List Task → List ℕ → SourceState
going tasks out = record { tasks = tasks; out = out; ending = None }

-- the first task is done; with no task left the run is done
abbrev pub done_first : List Task → List ℕ → SourceState
done_first [] out = record { tasks = []; out = out; ending = Some (Status 0) }
done_first (Enter literals ∷ tasks) out = going (map Do literals ++ tasks) out
done_first (Do literal ∷ tasks) out = going (Print literal ∷ tasks) out
done_first (Print literal ∷ tasks) out = going tasks (out ++ (literal ++ line_feed ∷ []))

abbrev pub source : List (List ℕ) → Machine SourceState (Unit {0}) Ending
source literals =
    record {
      start = going (Enter literals ∷ []) [];
      next = λ s. done_first s.tasks s.out;
      see = λ s. record { out = s.out; err = []; events = []; ending = s.ending };
    }
