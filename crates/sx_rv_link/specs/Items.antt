-- What the machine does at each item of a program that is no plain instruction.
use Rattle.std.specs.Prelude.{◌≡◌, ℕ, ◌+◌, ◌%◌, ◌^◌, ◌<◌, ◌≤◌, Bool, List, length, if◌then◌else◌}
use Rattle.sx_rv_isa.specs.declared.fields.Reg.{Reg}
use Rattle.sx_rv_isa.specs.declared.instructions.BranchOp.{BranchOp}
use Rattle.sx_rv_isa.specs.declared.instructions.Instr.{Instr}
use Rattle.sx_rv_isa.specs.Effects.{is_taken}
use Rattle.sx_rv_asm.specs.declared.items.Item.{Item}
use Rattle.sx_rv_asm.specs.declared.items.Item.TheVariants as item
use Rattle.sx_rv_asm.specs.Items.{form_size}
use Rattle.sx_rv_asm.specs.Forms.{base_of}
use Rattle.sx_rv_asm.specs.Layout.{HasPlaces}
use Rattle.sx_rv_asm.specs.Fetching.{LiesAt}
use Rattle.sx_rv_machine.specs.State.{State, register}
use Rattle.sx_rv_machine.specs.Step.{step_of, carried_out}
use Rattle.sx_rv_link.specs.Following.{HasCode, IsRunning, Goes}

-- the machine is at an item of a program whose code lies in its memory
pub record IsAt (s : State) (code : List ℕ) (place : ℕ → ℕ) (base at : ℕ) (near : Bool) (i : Item) : Type 0 where
  pub lies : LiesAt code place at near i
  pub places : HasPlaces place (length code)
  pub has_code : HasCode s base code
  pub base_aligned : base % 4 ≡ 0
  pub base_small : base + 2 ^ 31 ≤ 2 ^ 64
  pub short : length code < 2 ^ 30
  pub running : IsRunning s
  pub pc : s.pc ≡ base + at

-- a branch goes to its label where its condition holds, and else behind itself
abbrev pub BranchGoes : State → (ℕ → ℕ) → ℕ → ℕ → Bool → BranchOp → Reg → Reg → ℕ → Type 0
BranchGoes s place base at near cond rs1 rs2 to = Goes s (if is_taken cond (register s rs1.number) (register s rs2.number) then base + place to else base + at + form_size near (item.Branch cond rs1 rs2 to)) 0 0 31 3

-- a jump goes to its label, with the address behind it in rd
abbrev pub JumpGoes : State → (ℕ → ℕ) → ℕ → ℕ → Bool → Reg → ℕ → Type 0
JumpGoes s place base at near rd to = Goes s (base + place to) rd.number (base + at + form_size near (item.Jump rd to)) (base_of rd).number 2

-- an instruction is carried out
abbrev pub IsCarriedOut : State → Instr → Type 0
IsCarriedOut s i = step_of s ≡ carried_out s i

-- an address is that of its label, in rd
abbrev pub AddressGoes : State → (ℕ → ℕ) → ℕ → ℕ → Reg → ℕ → Type 0
AddressGoes s place base at rd to = Goes s (base + at + 8) rd.number (base + place to) rd.number 2
