-- The state of the machine: one hart (RISC-V Unprivileged ISA, 'Programmers' Model for Base Integer ISA') and its memory.
use Rattle.std.specs.Prelude.{ℕ, ◌==◌, List, slice_index, slice_set, Option, if◌then◌else◌}
use Rattle.sx_rv_machine.specs.Memory.{Area}
use Rattle.sx_rv_machine.specs.declared.machine.Ending.{Ending}

pub record State : Type 0 where
  -- 32 of them, below 2 ^ 64; x0 is 0
  pub registers : List ℕ
  pub memory : List Area
  -- where the next instruction lies
  pub pc : ℕ
  -- how the run has ended, if it has
  pub ending : Option Ending

abbrev pub register : State → ℕ → ℕ
register s number = slice_index s.registers number

-- x0 stays
abbrev pub with_register : State → ℕ → ℕ → State
with_register s number value = if number == 0 then s else record s { registers = slice_set s.registers number value }
