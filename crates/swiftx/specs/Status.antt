-- The exit status of each outcome.
use Rattle.std.specs.Prelude.{ℕ}
use Rattle.swiftx.specs.declared.outcome.Outcome.{Outcome}
use Rattle.swiftx.specs.declared.outcome.Outcome.TheVariants.{Done, Exited, Usage, Refused, ElfRefused, Budget, MachineFault, StoreFault, SinkFault, NoMemory}

abbrev pub status_of : Outcome → ℕ
status_of Done = 0
status_of (Exited status) = status
status_of Usage = 2
status_of StoreFault = 3
status_of SinkFault = 4
status_of (Refused fault) = 5
status_of (ElfRefused stop) = 6
status_of Budget = 7
status_of (MachineFault kind pc) = 8
status_of NoMemory = 9
