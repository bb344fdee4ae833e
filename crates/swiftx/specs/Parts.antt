-- What the parts of a call do, in the words of the whole.
use Rattle.std.specs.Prelude.{◌≡◌, ◌⊎◌, ℕ, List, [], Option, None, Some}
use Rattle.sx_runs.specs.Machine.{shown}
use Rattle.sx_runs.specs.Performs.{Performs}
use Rattle.sx_rv_machine.specs.Put.{Told, Grew, BrokeOff}
use Rattle.swiftx.specs.Answer.{Completed, Broken}
use Rattle.swiftx.specs.Due.{Due, CheckDue, TextDue, ElfDue, ReadDue, run_due, exec_due, ends_as}
use Rattle.swiftx.specs.Source.{source}
use Rattle.sx_typed.specs.declared.program.Typed.{Typed}
use Rattle.sx_driver.specs.Faults.{HasTyped, IsFault, IsPlaced}
use Rattle.sx_driver.specs.Lines.{fault_line}
use Rattle.sx_driver.specs.declared.fault.Fault.{Fault}
use Rattle.swiftx.specs.Lines.{elf_line}
use Rattle.swiftx.specs.Target.{start, target}
use Rattle.swiftx.specs.Commands.{Command}
use Rattle.sx_elf.specs.declared.elf_stop.ElfStop.{ElfStop}
use Rattle.sx_rv_machine.specs.State.{State}
use Rattle.swiftx.specs.declared.outcome.Outcome.{Outcome}
use Rattle.swiftx.specs.declared.outcome.Outcome.TheVariants.{SinkFault, NoMemory, Refused, ElfRefused}
use Rattle.swiftx.specs.declared.bench.Bench.{Bench}

-- the line stands at the end of the second output, or its put failed
abbrev pub Said : Outcome → Outcome → List ℕ → Told → Told → Type 0
Said about result line err err' = ((result ≡ about) × Grew err err' line) ⊎ ((result ≡ SinkFault) × BrokeOff err err' [] line)

-- all of what was due, or a put failed
abbrev pub Settled : Due → Told → Told → Told → Told → Bench → Outcome → Type 0
Settled due out out' err err' bench result = Completed due out out' err err' bench result ⊎ ((result ≡ SinkFault) × Broken due out out' err err' bench)

-- memory ran out, and nothing was written
pub record RanOut (out out' err err' : Told) (result : Outcome) : Type 0 where
  pub answers : result ≡ NoMemory
  pub out_same : Grew out out' []
  pub err_same : Grew err err' []

-- a file's machine ran, or a put failed
pub record FileSettled (file : List ℕ) (steps : ℕ) (out out' err err' : Told) (bench : Bench) (result : Outcome) : Type 0 where
  pub outcome : Outcome
  pub ends : ends_as outcome ≡ Some (shown (target file) steps).ending
  pub settled : Settled (run_due outcome file steps) out out' err err' bench result

-- some literals were built and their file's machine ran
pub record PrintsSettled (literals : List (List ℕ)) (steps : ℕ) (out out' err err' : Told) (bench : Bench) (result : Outcome) : Type 0 where
  pub file : List ℕ
  pub performs : Performs (source literals) (target file)
  pub settled : FileSettled file steps out out' err err' bench result

-- what was due for a text was settled
pub record TextSettled (text : List ℕ) (steps : ℕ) (out out' err err' : Told) (bench : Bench) (result : Outcome) : Type 0 where
  pub due : Due
  pub is : TextDue text steps due
  pub settled : Settled due out out' err err' bench result

-- what was due for a text that was checked was settled
pub record CheckSettled (text : List ℕ) (out out' err err' : Told) (bench : Bench) (result : Outcome) : Type 0 where
  pub due : Due
  pub is : CheckDue text due
  pub settled : Settled due out out' err err' bench result

-- the text breaks this rule first, or it has a typed tree
abbrev pub Judged : List ℕ → Option Fault → Type 0
Judged text None = (typed : Typed) × HasTyped text typed
Judged text (Some fault) = IsFault text fault × IsPlaced text fault

-- the line of a fault of the text stands at the end of the second output, or its put failed
abbrev pub FaultSaid : List ℕ → Fault → Outcome → Told → Told → Type 0
FaultSaid text fault result err err' = Said (Refused fault) result (fault_line text fault) err err'

-- the line of a refused executable stands at the end of the second output, or its put failed
pub record StopSaid (stop : ElfStop) (result : Outcome) (err err' : Told) : Type 0 where
  pub line : List ℕ
  pub is : elf_line stop ≡ Some line
  pub said : Said (ElfRefused stop) result line err err'

-- of each file whose machine starts in this state: its machine ran, or a put failed
abbrev pub MachineSettled : State → ℕ → Told → Told → Told → Told → Bench → Outcome → Type 0
MachineSettled machine steps out out' err err' bench result = (file : List ℕ) → machine ≡ start file → Settled (exec_due file steps) out out' err err' bench result

-- what was due for an executable was settled
pub record ExecSettled (file : List ℕ) (steps : ℕ) (out out' err err' : Told) (bench : Bench) (result : Outcome) : Type 0 where
  pub due : Due
  pub is : ElfDue file steps due
  pub settled : Settled due out out' err err' bench result

-- what was due for a command whose file was read was settled
pub record CommandSettled (command : Command) (bytes : List ℕ) (out out' err err' : Told) (bench : Bench) (result : Outcome) : Type 0 where
  pub due : Due
  pub is : ReadDue command bytes due
  pub settled : Settled due out out' err err' bench result
