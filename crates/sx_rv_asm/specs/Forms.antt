-- The near and far forms of items: the instructions that each becomes.
-- RISC-V Unprivileged ISA, RV32I, 'Control Transfer Instructions' and 'Integer Register-Immediate Instructions': a
-- branch reaches 4 KiB, JAL 1 MiB, and AUIPC with a second instruction 2 GiB, in either direction.
use Rattle.std.specs.Prelude.{ℕ, ◌+◌, ◌-◌, ◌/◌, ◌%◌, ◌^◌, ◌==◌, ◌&&◌, Bool, true, false, nat_le, List, [], ◌∷◌, ◌++◌, if◌then◌else◌}
use Rattle.std.specs.Int.{w32, to_le_bytes}
use Rattle.sx_rv_isa.specs.declared.fields.Reg.{Reg}
use Rattle.sx_rv_isa.specs.declared.instructions.BranchOp.{BranchOp}
use Rattle.sx_rv_isa.specs.declared.instructions.BranchOp.TheVariants.{Beq, Bne, Blt, Bge, Bltu, Bgeu}
use Rattle.sx_rv_isa.specs.declared.instructions.UpperOp.TheVariants.{Auipc}
use Rattle.sx_rv_isa.specs.declared.instructions.ImmediateOp.TheVariants.{Addi}
use Rattle.sx_rv_isa.specs.declared.instructions.Instr.{Instr}
use Rattle.sx_rv_isa.specs.declared.instructions.Instr.TheVariants as instr
use Rattle.sx_rv_isa.specs.Words.{word_of, reg, imm12, imm20}
use Rattle.sx_rv_asm.specs.declared.items.Item.{Item}
use Rattle.sx_rv_asm.specs.declared.items.Item.TheVariants.{Plain, Label, Branch, Jump, Address, Bytes}

-- from an address to a target, in two's complement of 32 bits
unfoldable pub distance : ℕ → ℕ → ℕ
distance start target = (target + (2 ^ 32 - start)) % 2 ^ 32

-- a distance in two parts: the upper one for AUIPC is rounded, since the lower one is signed
unfoldable pub upper_part : ℕ → ℕ
upper_part d = (d + 2048) / 4096

-- a target is at most so far ahead of an address and at most so far behind it
abbrev pub is_within : ℕ → ℕ → ℕ → ℕ → Bool
is_within ahead behind start target = nat_le target (start + ahead) && nat_le start (target + behind)

-- an item with a near form reaches its target by it; `place` tells where labels stand
abbrev pub is_near : (ℕ → ℕ) → ℕ → Item → Bool
is_near place at (Plain instruction) = false
is_near place at (Label m) = false
is_near place at (Branch cond rs1 rs2 to) = is_within 4094 4096 at (place to)
is_near place at (Jump rd to) = is_within 1048574 1048576 at (place to)
is_near place at (Address rd to) = false
is_near place at (Bytes bytes) = false

-- the condition that holds where the other does not
abbrev pub inverse : BranchOp → BranchOp
inverse Beq = Bne
inverse Bne = Beq
inverse Blt = Bge
inverse Bge = Blt
inverse Bltu = Bgeu
inverse Bgeu = Bltu

-- the register that a far jump goes by: its own link register, or x31 where it keeps no link
abbrev pub base_of : Reg → Reg
base_of rd = if rd.number == 0 then reg 31 else rd

-- a far jump by a register
abbrev pub far_jump : Reg → Reg → ℕ → List Instr
far_jump rd base d = instr.Upper Auipc base (imm20 (upper_part d)) ∷ instr.JumpTo rd base (imm12 d) ∷ []

-- the forms of a branch, of a jump and of an address, at an address with their target
abbrev pub branch_form : Bool → BranchOp → Reg → Reg → ℕ → ℕ → List Instr
branch_form true cond rs1 rs2 at target = instr.Branch cond rs1 rs2 (imm12 (distance at target / 2)) ∷ []
branch_form false cond rs1 rs2 at target = instr.Branch (inverse cond) rs1 rs2 (imm12 6) ∷ far_jump (reg 0) (reg 31) (distance (at + 4) target)

abbrev pub jump_form : Bool → Reg → ℕ → ℕ → List Instr
jump_form true rd at target = instr.Jump rd (imm20 (distance at target / 2)) ∷ []
jump_form false rd at target = far_jump rd (base_of rd) (distance at target)

abbrev pub address_form : Reg → ℕ → ℕ → List Instr
address_form rd at target = instr.Upper Auipc rd (imm20 (upper_part (distance at target))) ∷ instr.Immediate Addi rd rd (imm12 (distance at target)) ∷ []

-- the instructions of an item at an address, where `place` tells where labels stand
abbrev pub instructions : (ℕ → ℕ) → ℕ → Bool → Item → List Instr
instructions place at near (Plain instruction) = instruction ∷ []
instructions place at near (Label m) = []
instructions place at near (Branch cond rs1 rs2 to) = branch_form near cond rs1 rs2 at (place to)
instructions place at near (Jump rd to) = jump_form near rd at (place to)
instructions place at near (Address rd to) = address_form rd at (place to)
instructions place at near (Bytes bytes) = []

-- the words of instructions, each with its lowest byte first
abbrev pub bytes_of : List Instr → List ℕ
bytes_of [] = []
bytes_of (instruction ∷ rest) = to_le_bytes w32 (word_of instruction) ++ bytes_of rest

abbrev pub data_of : Item → List ℕ
data_of (Plain instruction) = []
data_of (Label m) = []
data_of (Branch cond rs1 rs2 to) = []
data_of (Jump rd to) = []
data_of (Address rd to) = []
data_of (Bytes bytes) = bytes

-- the bytes of an item at an address
unfoldable pub form_of : (ℕ → ℕ) → ℕ → Bool → Item → List ℕ
form_of place at near item = bytes_of (instructions place at near item) ++ data_of item
