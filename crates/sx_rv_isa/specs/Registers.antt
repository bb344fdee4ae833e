-- The registers that an instruction names: rd, rs1 and rs2 of its format, and 0 where the format has none.
-- RISC-V Unprivileged ISA, RV32I, 'Base Instruction Formats'. FENCE reads and writes no register, whatever its fields are.
use Rattle.std.specs.Prelude.{ℕ}
use Rattle.sx_rv_isa.specs.declared.instructions.Instr.{Instr}
use Rattle.sx_rv_isa.specs.declared.instructions.Instr.TheVariants.{Upper, Jump, JumpTo, Branch, Load, Store, Immediate, Shift, ShiftWord, Register, Fence, System}

-- the register that is written
abbrev pub destination : Instr → ℕ
destination (Upper op rd imm) = rd.number
destination (Jump rd imm) = rd.number
destination (JumpTo rd rs1 imm) = rd.number
destination (Branch op rs1 rs2 imm) = 0
destination (Load op rd rs1 imm) = rd.number
destination (Store op rs1 rs2 imm) = 0
destination (Immediate op rd rs1 imm) = rd.number
destination (Shift op rd rs1 amount) = rd.number
destination (ShiftWord op rd rs1 amount) = rd.number
destination (Register op rd rs1 rs2) = rd.number
destination (Fence rd rs1 imm) = 0
destination (System op) = 0

-- the register that is read as rs1
abbrev pub first_source : Instr → ℕ
first_source (Upper op rd imm) = 0
first_source (Jump rd imm) = 0
first_source (JumpTo rd rs1 imm) = rs1.number
first_source (Branch op rs1 rs2 imm) = rs1.number
first_source (Load op rd rs1 imm) = rs1.number
first_source (Store op rs1 rs2 imm) = rs1.number
first_source (Immediate op rd rs1 imm) = rs1.number
first_source (Shift op rd rs1 amount) = rs1.number
first_source (ShiftWord op rd rs1 amount) = rs1.number
first_source (Register op rd rs1 rs2) = rs1.number
first_source (Fence rd rs1 imm) = 0
first_source (System op) = 0

-- the register that is read as rs2
abbrev pub second_source : Instr → ℕ
second_source (Upper op rd imm) = 0
second_source (Jump rd imm) = 0
second_source (JumpTo rd rs1 imm) = 0
second_source (Branch op rs1 rs2 imm) = rs2.number
second_source (Load op rd rs1 imm) = 0
second_source (Store op rs1 rs2 imm) = rs2.number
second_source (Immediate op rd rs1 imm) = 0
second_source (Shift op rd rs1 amount) = 0
second_source (ShiftWord op rd rs1 amount) = 0
second_source (Register op rd rs1 rs2) = rs2.number
second_source (Fence rd rs1 imm) = 0
second_source (System op) = 0
