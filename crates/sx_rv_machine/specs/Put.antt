-- What a run answers, and what the sinks have taken.
use Rattle.std.specs.Prelude.{◌≡◌, ◌⊎◌, ℕ, suc, ◌<◌, List, [], ◌++◌, take, length, Option, Some, None, option_map, Result, Ok, Err}
use Rattle.sx_io.specs.Outside.{Rose}
use Rattle.sx_io.specs.declared.sink.SinkStop.{SinkStop}
use Rattle.sx_runs.specs.Machine.{after}
use Rattle.sx_rv_machine.specs.State.{State}
use Rattle.sx_rv_machine.specs.Run.{machine_from, emitted}
use Rattle.sx_rv_machine.specs.declared.machine.Ending.{Ending}
use Rattle.sx_rv_machine.specs.declared.machine.Ending.TheVariants.{Exits, Faults}
use Rattle.sx_rv_machine.specs.declared.runs.RunEnd.{RunEnd}
use Rattle.sx_rv_machine.specs.declared.runs.RunEnd.TheVariants as ends

-- as a run answers it
abbrev pub end_of : Option Ending → RunEnd
end_of None = ends.Budget
end_of (Some (Exits status)) = ends.Exited status
end_of (Some (Faults kind pc)) = ends.Faulted kind pc

-- a sink before and after a call: what it tells, where it tells it, and its count of faults
pub record Told : Type 0 where
  pub bytes : Option (List ℕ)
  pub faults : ℕ

-- the sink has grown by exactly these bytes, and no put failed
pub record Grew (old new : Told) (bytes : List ℕ) : Type 0 where
  pub told : new.bytes ≡ option_map (λ (t : List ℕ). t ++ bytes) old.bytes
  pub count : new.faults ≡ old.faults

-- the sink has grown by these bytes and a front of what was put last, which failed
pub record BrokeOff (old new : Told) (bytes last : List ℕ) : Type 0 where
  pub taken : ℕ
  pub told : new.bytes ≡ option_map (λ (t : List ℕ). t ++ (bytes ++ take taken last)) old.bytes
  pub count : Rose old.faults new.faults

-- no put failed: the machine stands after all the steps, and the sinks have grown by its outputs
pub record RanThrough (steps : ℕ) (old new : State) (out out' err err' : Told) (end : RunEnd) : Type 0 where
  pub state : new ≡ (after (machine_from old) steps).state
  pub answer : end ≡ end_of new.ending
  pub out_grew : Grew out out' (after (machine_from old) steps).out
  pub err_grew : Grew err err' (after (machine_from old) steps).err

-- the put of output fd failed: the machine stands right after the step that wrote those bytes, at least one; the sinks
-- have what was written before, and of the failed put's bytes a front
pub record Stopped (steps : ℕ) (old new : State) (out out' err err' : Told) (fd : ℕ) : Type 0 where
  pub before : ℕ
  pub within : before < steps
  pub state : new ≡ (after (machine_from old) (suc before)).state
  pub output : (fd ≡ 1) ⊎ (fd ≡ 2)
  pub out_wrote : fd ≡ 1 → 0 < length (emitted (after (machine_from old) before).state 1)
  pub err_wrote : fd ≡ 2 → 0 < length (emitted (after (machine_from old) before).state 2)
  pub out_broke : fd ≡ 1 → BrokeOff out out' (after (machine_from old) before).out (emitted (after (machine_from old) before).state 1)
  pub out_whole : fd ≡ 2 → Grew out out' (after (machine_from old) before).out
  pub err_broke : fd ≡ 2 → BrokeOff err err' (after (machine_from old) before).err (emitted (after (machine_from old) before).state 2)
  pub err_whole : fd ≡ 1 → Grew err err' (after (machine_from old) before).err

-- what a run does, by what it answers
abbrev pub Ran : ℕ → State → State → Told → Told → Told → Told → RunEnd → Type 0
Ran steps old new out out' err err' (ends.Exited status) = RanThrough steps old new out out' err err' (ends.Exited status)
Ran steps old new out out' err err' ends.Budget = RanThrough steps old new out out' err err' ends.Budget
Ran steps old new out out' err err' (ends.Faulted kind pc) = RanThrough steps old new out out' err err' (ends.Faulted kind pc)
Ran steps old new out out' err err' (ends.SinkFault fd) = Stopped steps old new out out' err err' fd

-- a put of one step's bytes to output fd has failed, which are some: its sink has a front of them, and the other sink stands
pub record GaveFront (fd : ℕ) (one two : List ℕ) (out out' err err' : Told) : Type 0 where
  pub output : (fd ≡ 1) ⊎ (fd ≡ 2)
  pub out_wrote : fd ≡ 1 → 0 < length one
  pub err_wrote : fd ≡ 2 → 0 < length two
  pub out_broke : fd ≡ 1 → BrokeOff out out' [] one
  pub out_whole : fd ≡ 2 → Grew out out' []
  pub err_broke : fd ≡ 2 → BrokeOff err err' [] two
  pub err_whole : fd ≡ 1 → Grew err err' []

-- what a put of one step's bytes to output fd does, where the step writes `one` to output 1 and `two` to output 2
abbrev pub Gave : ℕ → List ℕ → List ℕ → Told → Told → Told → Told → Result (Unit {0}) SinkStop → Type 0
Gave fd one two out out' err err' (Ok value) = Grew out out' one × Grew err err' two
Gave fd one two out out' err err' (Err stop) = GaveFront fd one two out out' err err'
