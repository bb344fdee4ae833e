-- What a call is to answer and to write, where no put fails.
use Rattle.std.specs.Prelude.{◌≡◌, ℕ, List, [], ◌∷◌, take, Option, Some, None, IfSome, option_map}
use Rattle.std.specs.FinMap.{get}
use Rattle.sx_io.specs.Outside.{Files, Call, reading}
use Rattle.sx_runs.specs.Machine.{after, shown}
use Rattle.sx_runs.specs.Performs.{Performs}
use Rattle.sx_runs.specs.Ending.{Ending, Status}
use Rattle.swiftx.specs.Commands.{Command, Check, Run, Exec, IsCommand, file_name}
use Rattle.swiftx.specs.Prints.{PrintsText, PrintsNothing}
use Rattle.swiftx.specs.Source.{source}
use Rattle.swiftx.specs.Target.{start, target}
use Rattle.swiftx.specs.Lines.{usage_line, store_line, elf_line, fault_line}
use Rattle.sx_elf.specs.Tests.{first_fault}
use Rattle.sx_elf.specs.declared.elf_stop.ElfStop.{ElfStop}
use Rattle.sx_rv_machine.specs.Run.{Running, machine_from}
use Rattle.sx_rv_machine.specs.declared.machine.Ending.{Ending as MachineEnding}
use Rattle.sx_rv_machine.specs.declared.machine.Ending.TheVariants.{Exits, Faults}
use Rattle.swiftx.specs.declared.outcome.Outcome.{Outcome}
use Rattle.swiftx.specs.declared.outcome.Outcome.TheVariants.{Done, Exited, Usage, Refused, ElfRefused, Budget, MachineFault, StoreFault, SinkFault, NoMemory}
use Rattle.sx_typed.specs.declared.program.Typed.{Typed}
use Rattle.sx_driver.specs.Faults.{HasTyped, IsFault}
use Rattle.sx_driver.specs.Lines.{fault_line as refusal_line}
use Rattle.sx_driver.specs.declared.fault.Fault.{Fault}
use Rattle.sx_driver.specs.declared.fault.Fault.TheVariants.{Unbuilt}

-- What is due: the outcome; the bytes that the machine itself writes to the two outputs; the line that tells of the
-- outcome, put behind them to the second output; and what the bench is to hold: the file that was built, the file whose
-- machine ran, and its limit of steps.
pub record Due : Type 0 where
  pub outcome : Outcome
  pub out : List ℕ
  pub err : List ℕ
  pub line : List ℕ
  pub built : Option (List ℕ)
  pub ran : Option (List ℕ)
  pub steps : ℕ

-- a line on the second output, and nothing else
abbrev pub line_due : Outcome → List ℕ → Due
line_due outcome line = record { outcome = outcome; out = []; err = []; line = line; built = None; ran = None; steps = 0 }

-- nothing to say
abbrev pub nothing_due : Outcome → Due
nothing_due outcome = line_due outcome []

-- the line of a fault of the text
abbrev pub refusal_due : List ℕ → Fault → Due
refusal_due text fault = line_due (Refused fault) (refusal_line text fault)

-- the machine of a built file, after all the steps of its limit; no line tells of its end
abbrev pub run_due : Outcome → List ℕ → ℕ → Due
run_due outcome file steps = record { outcome = outcome; out = (shown (target file) steps).out; err = (shown (target file) steps).err; line = []; built = Some file; ran = Some file; steps = steps }

-- the machine of a file after so many steps
abbrev pub executed : List ℕ → ℕ → Running
executed file steps = after (machine_from (start file)) steps

-- what is answered for a machine's own ending
abbrev pub ended_with : Option MachineEnding → Outcome
ended_with None = Budget
ended_with (Some (Exits status)) = Exited status
ended_with (Some (Faults kind pc)) = MachineFault kind pc

-- the line that tells of it: a fault has one
abbrev pub ending_line : Option MachineEnding → List ℕ
ending_line None = []
ending_line (Some (Exits status)) = []
ending_line (Some (Faults kind pc)) = fault_line kind pc

-- the machine of a file that was not built here, after all the steps of its limit; a line tells of a fault
abbrev pub exec_due : List ℕ → ℕ → Due
exec_due file steps = record { outcome = ended_with (executed file steps).state.ending; out = (executed file steps).out; err = (executed file steps).err; line = ending_line (executed file steps).state.ending; built = None; ran = Some file; steps = steps }

-- the store, where it tells its files, has this text under the name, or at least so many bytes of it
abbrev pub Holds : Option Files → List ℕ → ℕ → List ℕ → Type 0
Holds files name most text = IfSome files (λ told. option_map (take most) (get told name) ≡ Some text)

-- of a source text one byte more than is allowed is read
unfoldable pub most_text : ℕ
most_text = 262145

-- of an executable these first bytes are read, and are the file that is spoken of
unfoldable pub most_file : ℕ
most_file = 268435456

-- how many bytes of its file a command reads
abbrev pub most_of : Command → ℕ
most_of (Check file) = most_text
most_of (Run file steps) = most_text
most_of (Exec file steps) = most_file

-- the text prints, is built, and its file performs as its source
pub record IsBuilt (text file : List ℕ) : Type 0 where
  pub literals : List (List ℕ)
  pub prints : PrintsText text literals
  pub performs : Performs (source literals) (target file)

-- how a run ends for the outcome
abbrev pub ends_as : Outcome → Option (Option Ending)
ends_as (Exited status) = Some (Some (Status status))
ends_as Budget = Some None
ends_as Done = None
ends_as Usage = None
ends_as (Refused fault) = None
ends_as (ElfRefused stop) = None
ends_as (MachineFault kind pc) = None
ends_as StoreFault = None
ends_as SinkFault = None
ends_as NoMemory = None

-- what is due for a text that is to be checked
pub data CheckDue (text : List ℕ) : Due → Type 0 where
  -- the text breaks a rule, this one first
  faulty : (fault : Fault) → IsFault text fault → CheckDue text (refusal_due text fault)
  -- the text has a typed tree
  sound : (typed : Typed) → HasTyped text typed → CheckDue text (nothing_due Done)

-- what is due for a text that is to be run
pub data TextDue (text : List ℕ) (steps : ℕ) : Due → Type 0 where
  -- the text breaks a rule, this one first
  refused : (fault : Fault) → IsFault text fault → TextDue text steps (refusal_due text fault)
  -- the text has a typed tree, and is no text of prints
  unbuilt : (typed : Typed) → HasTyped text typed → PrintsNothing text → TextDue text steps (refusal_due text Unbuilt)
  -- the text is built and run
  ran : (typed : Typed) → HasTyped text typed → (file : List ℕ) (outcome : Outcome) → IsBuilt text file → ends_as outcome ≡ Some (shown (target file) steps).ending → TextDue text steps (run_due outcome file steps)

-- what is due for an executable that was read
pub data ElfDue (file : List ℕ) (steps : ℕ) : Due → Type 0 where
  -- it fails a test
  unloadable : (stop : ElfStop) (line : List ℕ) → first_fault file ≡ Some stop → elf_line stop ≡ Some line → ElfDue file steps (line_due (ElfRefused stop) line)
  -- it is loaded and run
  loadable : first_fault file ≡ None → ElfDue file steps (exec_due file steps)

-- what is due for a command whose file was read
abbrev pub ReadDue : Command → List ℕ → Due → Type 0
ReadDue (Check file) text due = CheckDue text due
ReadDue (Run file steps) text due = TextDue text steps due
ReadDue (Exec file steps) bytes due = ElfDue bytes steps due

-- what is due for the words, and the calls of the store that they make
pub data IsDue (words : List (List ℕ)) (files : Option Files) : Due → List Call → Type 0 where
  -- the words are no command
  no_command : ((command : Command) → IsCommand words command → ⊥) → IsDue words files (line_due Usage usage_line) []
  -- the read failed
  unread : (command : Command) → IsCommand words command → IsDue words files (line_due StoreFault store_line) (reading (file_name command) ∷ [])
  -- the file was read
  read : (command : Command) (bytes : List ℕ) (due : Due) → IsCommand words command → Holds files (file_name command) (most_of command) bytes → ReadDue command bytes due → IsDue words files due (reading (file_name command) ∷ [])
