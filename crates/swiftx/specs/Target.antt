-- The machine of a file, with the endings that all layers share.
use Rattle.std.specs.Prelude.{ℕ, List}
use Rattle.sx_runs.specs.Machine.{Machine, with_endings}
use Rattle.sx_runs.specs.Ending.{Ending as End, Status, Broken}
use Rattle.sx_elf.specs.Loading.{loaded}
use Rattle.sx_rv_machine.specs.Load.{start_of}
use Rattle.sx_rv_machine.specs.Run.{Running, machine_from}
use Rattle.sx_rv_machine.specs.State.{State}
use Rattle.sx_rv_machine.specs.declared.machine.Ending.{Ending}
use Rattle.sx_rv_machine.specs.declared.machine.Ending.TheVariants.{Exits, Faults}

-- an exit with a status is the ending with that status
abbrev pub as_end : Ending → End
as_end (Exits status) = Status status
as_end (Faults kind pc) = Broken

-- the state in which the machine of a file starts
unfoldable pub start : List ℕ → State
start file = start_of (loaded file)

abbrev pub target : List ℕ → Machine Running (Unit {0}) End
target file = with_endings as_end (machine_from (start file))
