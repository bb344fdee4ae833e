-- One step of the machine: fetch, decode and carry out one instruction (RISC-V Unprivileged ISA, RV64I and M).
use Rattle.std.specs.Prelude.{ℕ, ◌+◌, ◌*◌, ◌%◌, ◌^◌, ◌==◌, ◌&&◌, ◌||◌, Bool, List, Option, Some, None, is_some, if◌then◌else◌}
use Rattle.sx_rv_isa.specs.Words.{decoded}
use Rattle.sx_rv_isa.specs.Effects.{effect, extend}
use Rattle.sx_rv_isa.specs.Registers.{destination, first_source, second_source}
use Rattle.sx_rv_isa.specs.declared.effect.Effect.{Effect}
use Rattle.sx_rv_isa.specs.declared.effect.Effect.TheVariants.{Value, Jump, Branch, Next, Load, Store, Environment, Breakpoint}
use Rattle.sx_rv_isa.specs.declared.faults.MachineKind.{MachineKind}
use Rattle.sx_rv_isa.specs.declared.faults.MachineKind.TheVariants as kind
use Rattle.sx_rv_isa.specs.declared.instructions.Instr.{Instr}
use Rattle.sx_rv_machine.specs.Memory.{Area, executable, readable, bytes_at, with_bytes, number_of, bytes_of}
use Rattle.sx_rv_machine.specs.State.{State, register, with_register}
use Rattle.sx_rv_machine.specs.declared.machine.Ending.{Ending}
use Rattle.sx_rv_machine.specs.declared.machine.Ending.TheVariants.{Exits, Faults}
use Rattle.sx_rv_machine.specs.declared.machine.Event.{Event}
use Rattle.sx_rv_machine.specs.declared.machine.Event.TheVariants.{Went, Wrote, Exited, Faulted}

-- what a step answers, and the state after it
pub record Stepped : Type 0 where
  pub event : Event
  pub state : State

abbrev pub told : Ending → Event
told (Exits status) = Exited status
told (Faults kind pc) = Faulted kind pc

abbrev pub went : State → Stepped
went s = record { event = Went; state = s }

abbrev pub ended : State → Ending → Stepped
ended s ending = record { event = told ending; state = record s { ending = Some ending } }

-- a faulting step changes nothing but that the run has ended, at the instruction's place
abbrev pub faulted : State → MachineKind → Stepped
faulted s why = ended s (Faults why s.pc)

abbrev pub at : State → ℕ → State
at s place = record s { pc = place }

-- at the next instruction
abbrev pub advanced : State → State
advanced s = at s ((s.pc + 4) % 2 ^ 64)

abbrev pub is_aligned : ℕ → ℕ → Bool
is_aligned address size = (address % size) == 0

-- control transfers ('Control Transfer Instructions'): a target must be a multiple of 4, as there are no 16-bit instructions
abbrev pub jumped : State → ℕ → ℕ → ℕ → Stepped
jumped s rd target link = if is_aligned target 4 then went (at (with_register s rd link) target) else faulted s kind.JumpMisaligned

abbrev pub branched : State → ℕ → Stepped
branched s target = if is_aligned target 4 then went (at s target) else faulted s kind.JumpMisaligned

-- loads and stores ('Load and Store Instructions')
abbrev pub loaded_value : ℕ → Bool → List ℕ → ℕ
loaded_value size signed bytes = if signed then extend (8 * size) (number_of size bytes) else number_of size bytes

abbrev pub got : State → ℕ → ℕ → Bool → Option (List ℕ) → Stepped
got s rd size signed None = faulted s kind.LoadOutside
got s rd size signed (Some bytes) = went (advanced (with_register s rd (loaded_value size signed bytes)))

abbrev pub loaded_from : State → ℕ → ℕ → ℕ → Bool → Stepped
loaded_from s rd address size signed = if is_aligned address size then got s rd size signed (bytes_at s.memory readable address size) else faulted s kind.LoadMisaligned

abbrev pub kept : State → Option (List Area) → Stepped
kept s None = faulted s kind.StoreOutside
kept s (Some memory) = went (advanced (record s { memory = memory }))

abbrev pub stored_at : State → ℕ → ℕ → ℕ → Stepped
stored_at s address size value = if is_aligned address size then kept s (with_bytes s.memory address (bytes_of size value)) else faulted s kind.StoreMisaligned

-- environment calls ('Environment Call and Breakpoints'), with the call's number in a7 (x17) and arguments in a0 to a2
-- (x10 to x12): 64 writes a2 bytes at a1 to output a0, which is 1 or 2; 93 exits with the low 8 bits of a0
abbrev pub may_write : State → Bool
may_write s = ((register s 10 == 1) || (register s 10 == 2)) && ((register s 12 == 0) || is_some (bytes_at s.memory readable (register s 11) (register s 12)))

abbrev pub called : State → Stepped
called s =
    if register s 17 == 93 then ended s (Exits (register s 10 % 2 ^ 8))
    else (if (register s 17 == 64) && may_write s
    then record { event = Wrote (register s 10) (register s 11) (register s 12); state = advanced (with_register s 10 (register s 12)) }
    else faulted s kind.Environment)

-- what an effect makes of a state, where rd is the destination
abbrev pub taken : State → ℕ → Effect → Stepped
taken s rd (Value value) = went (advanced (with_register s rd value))
taken s rd (Jump target link) = jumped s rd target link
taken s rd (Branch target) = branched s target
taken s rd Next = went (advanced s)
taken s rd (Load address size signed) = loaded_from s rd address size signed
taken s rd (Store address size value) = stored_at s address size value
taken s rd Environment = called s
taken s rd Breakpoint = faulted s kind.Breakpoint

abbrev pub carried_out : State → Instr → Stepped
carried_out s i = taken s (destination i) (effect i s.pc (register s (first_source i)) (register s (second_source i)))

abbrev pub decoded_to : State → Option Instr → Stepped
decoded_to s None = faulted s kind.Illegal
decoded_to s (Some i) = carried_out s i

abbrev pub fetched : State → Option (List ℕ) → Stepped
fetched s None = faulted s kind.FetchOutside
fetched s (Some bytes) = decoded_to s (decoded (number_of 4 bytes))

abbrev pub instruction : State → Stepped
instruction s = if is_aligned s.pc 4 then fetched s (bytes_at s.memory executable s.pc 4) else faulted s kind.FetchMisaligned

-- an ended state stays, and answers the same again
abbrev pub step_unless : State → Option Ending → Stepped
step_unless s (Some ending) = record { event = told ending; state = s }
step_unless s None = instruction s

abbrev pub step_of : State → Stepped
step_of s = step_unless s s.ending
