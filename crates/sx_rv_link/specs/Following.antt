-- What it is for the machine over bytes to follow a walk through instructions.
use Rattle.std.specs.Prelude.{◌≡◌, ◌≢◌, ℕ, zero, suc, ◌+◌, ◌<◌, ◌≤◌, ◌/◌, ◌%◌, List, ◌∷◌, length, Some, None}
use Rattle.sx_rv_asm.specs.Fetching.{part}
use Rattle.sx_rv_asm.specs.Walking.{Hart}
use Rattle.sx_rv_asm.specs.Walking as walking
use Rattle.sx_rv_machine.specs.Memory.{Area, executable, bytes_at}
use Rattle.sx_rv_machine.specs.State.{State, register}
use Rattle.sx_rv_machine.specs.Step.{step_of}
use Rattle.sx_rv_machine.specs.declared.machine.Event.TheVariants.{Went}

-- code lies in the memory at a base, and may be executed
pub record HasCode (s : State) (base : ℕ) (code : List ℕ) : Type 0 where
  pub fetch : (at : ℕ) → at + 4 ≤ length code → bytes_at s.memory executable (base + at) 4 ≡ Some (part code at 4)

-- a machine that runs has the pc and the registers of a hart
pub record Shows (s : State) (h : Hart) : Type 0 where
  pub pc : s.pc ≡ h.pc
  pub registers : (n : ℕ) → n < 32 → register s n ≡ walking.register h n
  pub count : length s.registers ≡ 32
  pub running : s.ending ≡ None

-- a machine whose run has not ended, with 32 registers of which x0 is 0
pub record IsRunning (s : State) : Type 0 where
  pub count : length s.registers ≡ 32
  pub zero_is : register s 0 ≡ 0
  pub running : s.ending ≡ None

-- the state after some steps
unfoldable pub steps : ℕ → State → State
steps zero s = s
steps (suc n) s = steps n (step_of s).state

-- the steps carry out instructions that write nothing and end nothing
unfoldable pub AllWent : ℕ → State → Type 0
AllWent zero s = Unit {0}
AllWent (suc n) s = ((step_of s).event ≡ Went) × AllWent n (step_of s).state

-- in at most so many steps the machine comes to the state of a hart, with its memory as it was
pub record Follows (s : State) (after : Hart) (most : ℕ) : Type 0 where
  pub count : ℕ
  pub few : count ≤ most
  pub quiet : AllWent count s
  pub shows : Shows (steps count s) after
  pub memory : (steps count s).memory ≡ s.memory

-- in at most so many steps the machine comes to a pc, with a value in register n (unless it is x0); no other register has
-- changed but the one named `free`, and nothing else has changed
pub record Goes (s : State) (pc n value free most : ℕ) : Type 0 where
  pub count : ℕ
  pub few : count ≤ most
  pub quiet : AllWent count s
  pub arrives : (steps count s).pc ≡ pc
  pub link : n ≢ 0 → register (steps count s) n ≡ value
  pub others : (m : ℕ) → m < 32 → m ≢ n → m ≢ free → register (steps count s) m ≡ register s m
  pub registers : IsRunning (steps count s)
  pub memory : (steps count s).memory ≡ s.memory

-- the code is the first area of the memory, which may be executed and not written
pub record LiesFirst (memory : List Area) (base : ℕ) (code : List ℕ) : Type 0 where
  pub area : Area
  pub rest : List Area
  pub first : memory ≡ area ∷ rest
  pub start : area.start ≡ base
  pub bytes : area.bytes ≡ code
  pub may_execute : area.flags % 2 ≡ 1
  pub may_not_write : area.flags / 2 % 2 ≡ 0
