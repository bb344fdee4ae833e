-- Runs of the machine, with what they write to the two outputs.
use Rattle.std.specs.Prelude.{ℕ, ◌==◌, List, [], ◌++◌, Option, Some, None, if◌then◌else◌}
use Rattle.sx_runs.specs.Machine.{Machine}
use Rattle.sx_rv_machine.specs.Memory.{Area, readable, bytes_at}
use Rattle.sx_rv_machine.specs.State.{State}
use Rattle.sx_rv_machine.specs.Step.{step_of}
use Rattle.sx_rv_machine.specs.declared.machine.Ending.{Ending}
use Rattle.sx_rv_machine.specs.declared.machine.Event.{Event}
use Rattle.sx_rv_machine.specs.declared.machine.Event.TheVariants.{Went, Wrote, Exited, Faulted}

-- a state, and what was written so far
pub record Running : Type 0 where
  pub state : State
  pub out : List ℕ
  pub err : List ℕ

abbrev pub bytes_or_none : Option (List ℕ) → List ℕ
bytes_or_none None = []
bytes_or_none (Some bytes) = bytes

-- what a step's event writes to an output (1 or 2): the bytes that the memory has there
abbrev pub written_by : List Area → Event → ℕ → List ℕ
written_by memory Went output = []
written_by memory (Wrote fd address length) output = if fd == output then bytes_or_none (bytes_at memory readable address length) else []
written_by memory (Exited status) output = []
written_by memory (Faulted kind pc) output = []

-- what the next step writes
abbrev pub emitted : State → ℕ → List ℕ
emitted s output = written_by s.memory (step_of s).event output

abbrev pub next : Running → Running
next r = record { state = (step_of r.state).state; out = r.out ++ emitted r.state 1; err = r.err ++ emitted r.state 2 }

-- the machine that starts in a state
abbrev pub machine_from : State → Machine Running (Unit {0}) Ending
machine_from s =
    record {
      start = record { state = s; out = []; err = [] };
      next = next;
      see = λ r. record { out = r.out; err = r.err; events = []; ending = r.state.ending };
    }
