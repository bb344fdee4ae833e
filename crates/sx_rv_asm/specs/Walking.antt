-- Instructions that stand one behind another, executed as the pc meets them: registers and pc alone.
use Rattle.std.specs.Prelude.{◌≡◌, ◌≢◌, ℕ, ◌+◌, ◌%◌, ◌^◌, ◌<◌, ◌≤◌, ◌==◌, List, [], ◌∷◌, Option, Some, None, option_and_then, if◌then◌else◌}
use Rattle.sx_rv_isa.specs.declared.effect.Effect.{Effect}
use Rattle.sx_rv_isa.specs.declared.effect.Effect.TheVariants as effects
use Rattle.sx_rv_isa.specs.declared.instructions.Instr.{Instr}
use Rattle.sx_rv_isa.specs.Effects.{effect}
use Rattle.sx_rv_isa.specs.Registers.{destination, first_source, second_source}

-- a pc and the contents of registers
pub record Hart : Type 0 where
  pub pc : ℕ
  pub registers : ℕ → ℕ

abbrev pub hart : ℕ → (ℕ → ℕ) → Hart
hart pc registers = record { pc = pc; registers = registers }

-- a register's contents: x0 reads as zero
abbrev pub register : Hart → ℕ → ℕ
register h n = if n == 0 then 0 else h.registers n

abbrev pub with_register : (ℕ → ℕ) → ℕ → ℕ → ℕ → ℕ
with_register registers n value m = if m == n then value else registers m

-- what an effect makes of the state, for a destination; None where it asks for memory or the environment, or goes to
-- an address that is no multiple of 4
abbrev pub took : ℕ → Effect → Hart → Option Hart
took rd (effects.Value value) h = Some (hart ((h.pc + 4) % 2 ^ 64) (with_register h.registers rd value))
took rd (effects.Jump target link) h = if target % 4 == 0 then Some (hart target (with_register h.registers rd link)) else None
took rd (effects.Branch target) h = if target % 4 == 0 then Some (hart target h.registers) else None
took rd effects.Next h = Some (hart ((h.pc + 4) % 2 ^ 64) h.registers)
took rd (effects.Load address bytes signed) h = None
took rd (effects.Store address bytes value) h = None
took rd effects.Environment h = None
took rd effects.Breakpoint h = None

abbrev pub executed : Instr → Hart → Option Hart
executed i h = took (destination i) (effect i h.pc (register h (first_source i)) (register h (second_source i))) h

-- goes through instructions that stand from an address on: each that the pc meets is executed, the others are passed over
abbrev pub through : ℕ → List Instr → Hart → Option Hart
through at [] h = Some h
through at (i ∷ is) h = if h.pc == at then option_and_then (through (at + 4) is) (executed i h) else through (at + 4) is h

-- a state has this pc and the register n this value (unless it is x0), and no other register has changed but the one named `free`
pub record Arrives (before : Hart) (pc : ℕ) (n : ℕ) (value : ℕ) (free : ℕ) (after : Hart) : Type 0 where
  pub arrives : after.pc ≡ pc
  pub link : n ≢ 0 → register after n ≡ value
  pub others : (m : ℕ) → m ≢ n → m ≢ free → register after m ≡ register before m

-- code of at most 2 ^ 30 bytes lies at a base, with an address and a target in it
pub record InCode (base at target : ℕ) : Type 0 where
  pub base_aligned : base % 4 ≡ 0
  pub at_aligned : at % 4 ≡ 0
  pub target_aligned : target % 4 ≡ 0
  pub at_small : at < 2 ^ 30
  pub target_small : target < 2 ^ 30
  pub base_small : base + 2 ^ 31 ≤ 2 ^ 64
