-- What each outcome of a call says.
use Rattle.std.specs.Prelude.{◌≡◌, ◌⊎◌, ℕ, ◌<◌, List, [], ◌∷◌, ◌++◌, length, Some, option_map}
use Rattle.sx_io.specs.Outside.{Call, reading, Rose}
use Rattle.sx_runs.specs.Machine.{after}
use Rattle.sx_rv_machine.specs.Put.{Told, Grew, BrokeOff, Stopped}
use Rattle.sx_rv_machine.specs.State.{State}
use Rattle.swiftx.specs.Commands.{Command, IsCommand, file_name}
use Rattle.swiftx.specs.Due.{Due, IsDue}
use Rattle.swiftx.specs.Outside.{Outside, Asked}
use Rattle.swiftx.specs.Target.{start, target}
use Rattle.swiftx.specs.declared.outcome.Outcome.{Outcome}
use Rattle.swiftx.specs.declared.outcome.Outcome.TheVariants.{Done, Exited, Usage, Refused, ElfRefused, Budget, MachineFault, StoreFault, SinkFault, NoMemory}
use Rattle.swiftx.specs.declared.bench.Bench.{Bench}

-- the machine of a file after so many steps
abbrev pub stands : List ℕ → ℕ → State
stands file steps = (after (target file) steps).state

-- the bench has the file that was built, and the machine that ran as it stands after all its steps
pub record OnBench (bench : Bench) (due : Due) : Type 0 where
  pub built : option_map (λ b. b.bytes.items) bench.built ≡ due.built
  pub machine : bench.machine ≡ option_map (λ file. stands file due.steps) due.ran

-- no put failed: the outcome and the outputs are those that are due, and the machine has taken all its steps
pub record Completed (due : Due) (out out' err err' : Told) (bench : Bench) (outcome : Outcome) : Type 0 where
  pub answers : outcome ≡ due.outcome
  pub out_grew : Grew out out' due.out
  pub err_grew : Grew err err' (due.err ++ due.line)
  pub bench_holds : OnBench bench due

-- a write of the machine failed: it stands right after the step that wrote, each output has what was written before, and
-- the one that failed a front of that write besides
pub record CutAtWrite (due : Due) (out out' err err' : Told) (bench : Bench) : Type 0 where
  pub file : List ℕ
  pub machine : State
  pub fd : ℕ
  pub ran : due.ran ≡ Some file
  pub stopped : Stopped due.steps (start file) machine out out' err err' fd
  pub built : option_map (λ b. b.bytes.items) bench.built ≡ due.built
  pub holds : bench.machine ≡ Some machine

-- the put of the last line failed: the outputs are whole up to that line, of which the second has a front, and the machine
-- has taken all its steps
pub record CutAtLine (due : Due) (out out' err err' : Told) (bench : Bench) : Type 0 where
  pub has_line : 0 < length due.line
  pub out_grew : Grew out out' due.out
  pub err_broke : BrokeOff err err' due.err due.line
  pub bench_holds : OnBench bench due

-- the first put that failed: nothing was put after it
pub data Broken (due : Due) (out out' err err' : Told) (bench : Bench) : Type 0 where
  -- a write of the machine
  at_write : CutAtWrite due out out' err err' bench → Broken due out out' err err' bench
  -- the line that tells of the outcome
  at_line : CutAtLine due out out' err err' bench → Broken due out out' err err' bench

-- the store's count rose exactly where its fault is due
abbrev pub StoreCount : Outcome → ℕ → ℕ → Type 0
StoreCount StoreFault before now = Rose before now
StoreCount Done before now = now ≡ before
StoreCount (Exited status) before now = now ≡ before
StoreCount Usage before now = now ≡ before
StoreCount (Refused fault) before now = now ≡ before
StoreCount (ElfRefused stop) before now = now ≡ before
StoreCount Budget before now = now ≡ before
StoreCount (MachineFault kind pc) before now = now ≡ before
StoreCount SinkFault before now = now ≡ before
StoreCount NoMemory before now = now ≡ before

-- all that was due was done
pub record IsDone (words : List (List ℕ)) (old new : Outside) (bench : Bench) (outcome : Outcome) : Type 0 where
  pub due : Due
  pub calls : List Call
  pub is : IsDue words old.files due calls
  pub asked : Asked old new calls
  pub store : StoreCount due.outcome old.store_faults new.store_faults
  pub all : Completed due old.out new.out old.err new.err bench outcome

-- something was due, and a put failed
pub record IsCut (words : List (List ℕ)) (old new : Outside) (bench : Bench) : Type 0 where
  pub due : Due
  pub calls : List Call
  pub is : IsDue words old.files due calls
  pub asked : Asked old new calls
  pub store : StoreCount due.outcome old.store_faults new.store_faults
  pub part : Broken due old.out new.out old.err new.err bench

-- memory ran out: nothing was written and nothing failed, and the store was asked at most for the file
pub record HasNoMemory (words : List (List ℕ)) (old new : Outside) : Type 0 where
  pub out : Grew old.out new.out []
  pub err : Grew old.err new.err []
  pub store : new.store_faults ≡ old.store_faults
  pub asked : Asked old new [] ⊎ (command : Command) × IsCommand words command × Asked old new (reading (file_name command) ∷ [])

abbrev pub Answered : List (List ℕ) → Outside → Outside → Bench → Outcome → Type 0
Answered words old new bench Done = IsDone words old new bench Done
Answered words old new bench Usage = IsDone words old new bench Usage
Answered words old new bench (Refused fault) = IsDone words old new bench (Refused fault)
Answered words old new bench (ElfRefused stop) = IsDone words old new bench (ElfRefused stop)
Answered words old new bench (Exited status) = IsDone words old new bench (Exited status)
Answered words old new bench Budget = IsDone words old new bench Budget
Answered words old new bench (MachineFault kind pc) = IsDone words old new bench (MachineFault kind pc)
Answered words old new bench StoreFault = IsDone words old new bench StoreFault
Answered words old new bench SinkFault = IsCut words old new bench
Answered words old new bench NoMemory = HasNoMemory words old new
