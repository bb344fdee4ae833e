-- What each instruction of RV64IM does: a 64-bit value is a number below 2 ^ 64, in two's complement where it is signed.
-- RISC-V Unprivileged ISA, RV32I, RV64I and the M extension.
use Rattle.std.specs.Prelude.{ℕ, ◌+◌, ◌-◌, ◌*◌, ◌/◌, ◌%◌, ◌^◌, ◌==◌, Bool, true, false, not, nat_lt, ℤ, pos, ◌*ℤ◌, int_lt, int_div, int_rem, bit_and, bit_or, bit_xor, if◌then◌else◌}
use Rattle.std.specs.Int.{w32, w64, cast_unsigned, int_shr}
use Rattle.sx_bits.specs.Fields.{signed}
use Rattle.sx_rv_isa.specs.declared.effect.Effect.{Effect}
use Rattle.sx_rv_isa.specs.declared.effect.Effect.TheVariants as effects
use Rattle.sx_rv_isa.specs.declared.instructions.UpperOp.{UpperOp}
use Rattle.sx_rv_isa.specs.declared.instructions.UpperOp.TheVariants.{Lui, Auipc}
use Rattle.sx_rv_isa.specs.declared.instructions.BranchOp.{BranchOp}
use Rattle.sx_rv_isa.specs.declared.instructions.BranchOp.TheVariants.{Beq, Bne, Blt, Bge, Bltu, Bgeu}
use Rattle.sx_rv_isa.specs.declared.instructions.LoadOp.{LoadOp}
use Rattle.sx_rv_isa.specs.declared.instructions.LoadOp.TheVariants.{Lb, Lh, Lw, Ld, Lbu, Lhu, Lwu}
use Rattle.sx_rv_isa.specs.declared.instructions.StoreOp.{StoreOp}
use Rattle.sx_rv_isa.specs.declared.instructions.StoreOp.TheVariants.{Sb, Sh, Sw, Sd}
use Rattle.sx_rv_isa.specs.declared.instructions.ImmediateOp.{ImmediateOp}
use Rattle.sx_rv_isa.specs.declared.instructions.ImmediateOp.TheVariants.{Addi, Slti, Sltiu, Xori, Ori, Andi, Addiw}
use Rattle.sx_rv_isa.specs.declared.instructions.ShiftOp.{ShiftOp}
use Rattle.sx_rv_isa.specs.declared.instructions.ShiftOp.TheVariants.{Slli, Srli, Srai}
use Rattle.sx_rv_isa.specs.declared.instructions.ShiftWordOp.{ShiftWordOp}
use Rattle.sx_rv_isa.specs.declared.instructions.ShiftWordOp.TheVariants.{Slliw, Srliw, Sraiw}
use Rattle.sx_rv_isa.specs.declared.instructions.RegisterOp.{RegisterOp}
use Rattle.sx_rv_isa.specs.declared.instructions.RegisterOp.TheVariants.{Add, Sub, Sll, Slt, Sltu, Xor, Srl, Sra, Or, And, Mul, Mulh, Mulhsu, Mulhu, Div, Divu, Rem, Remu, Addw, Subw, Sllw, Srlw, Sraw, Mulw, Divw, Divuw, Remw, Remuw}
use Rattle.sx_rv_isa.specs.declared.instructions.SystemOp.TheVariants.{Ecall, Ebreak}
use Rattle.sx_rv_isa.specs.declared.instructions.Instr.{Instr}
use Rattle.sx_rv_isa.specs.declared.instructions.Instr.TheVariants.{Upper, Jump, JumpTo, Branch, Load, Store, Immediate, Shift, ShiftWord, Register, Fence, System}

-- the 64 bits of an integer, and the n bits of value extended to 64 by their sign
abbrev pub bits64 : ℤ → ℕ
bits64 z = cast_unsigned w64 z

unfoldable pub extend : ℕ → ℕ → ℕ
extend n value = bits64 (signed n value)

-- the low 32 bits
abbrev pub word : ℕ → ℕ
word x = x % 2 ^ 32

-- 1 where a test holds
abbrev pub bit : Bool → ℕ
bit b = if b then 1 else 0

-- ---- operations on two registers: 'Integer Register-Register Operations'; M, 'Multiplication Operations' and 'Division Operations'
-- A word form computes on the low 32 bits and extends its result by the sign. A zero divisor gives a quotient of all
-- ones and the dividend as remainder; the signed division that overflows gives the dividend and the remainder 0.

unfoldable pub register_value : RegisterOp → ℕ → ℕ → ℕ
register_value Add a b = (a + b) % 2 ^ 64
register_value Sub a b = (a + (2 ^ 64 - b)) % 2 ^ 64
register_value Sll a b = (a * 2 ^ (b % 64)) % 2 ^ 64
register_value Slt a b = bit (int_lt (signed 64 a) (signed 64 b))
register_value Sltu a b = bit (nat_lt a b)
register_value Xor a b = bit_xor a b
register_value Srl a b = a / 2 ^ (b % 64)
register_value Sra a b = bits64 (int_shr (signed 64 a) (b % 64))
register_value Or a b = bit_or a b
register_value And a b = bit_and a b
register_value Mul a b = (a * b) % 2 ^ 64
register_value Mulh a b = bits64 (int_shr (signed 64 a *ℤ signed 64 b) 64)
register_value Mulhsu a b = bits64 (int_shr (signed 64 a *ℤ pos b) 64)
register_value Mulhu a b = a * b / 2 ^ 64
register_value Div a b = if b == 0 then 2 ^ 64 - 1 else bits64 (int_div (signed 64 a) (signed 64 b))
register_value Divu a b = if b == 0 then 2 ^ 64 - 1 else a / b
register_value Rem a b = if b == 0 then a else bits64 (int_rem (signed 64 a) (signed 64 b))
register_value Remu a b = if b == 0 then a else a % b
register_value Addw a b = extend 32 ((word a + word b) % 2 ^ 32)
register_value Subw a b = extend 32 ((word a + (2 ^ 32 - word b)) % 2 ^ 32)
register_value Sllw a b = extend 32 ((word a * 2 ^ (b % 32)) % 2 ^ 32)
register_value Srlw a b = extend 32 (word a / 2 ^ (b % 32))
register_value Sraw a b = bits64 (int_shr (signed 32 (word a)) (b % 32))
register_value Mulw a b = extend 32 ((word a * word b) % 2 ^ 32)
register_value Divw a b = if word b == 0 then 2 ^ 64 - 1 else extend 32 (cast_unsigned w32 (int_div (signed 32 (word a)) (signed 32 (word b))))
register_value Divuw a b = if word b == 0 then 2 ^ 64 - 1 else extend 32 (word a / word b)
register_value Remw a b = if word b == 0 then extend 32 (word a) else extend 32 (cast_unsigned w32 (int_rem (signed 32 (word a)) (signed 32 (word b))))
register_value Remuw a b = if word b == 0 then extend 32 (word a) else extend 32 (word a % word b)

-- ---- operations on a register and an immediate of 64 bits, or an amount: 'Integer Register-Immediate Instructions'

abbrev pub immediate_value : ImmediateOp → ℕ → ℕ → ℕ
immediate_value Addi a b = register_value Add a b
immediate_value Slti a b = register_value Slt a b
immediate_value Sltiu a b = register_value Sltu a b
immediate_value Xori a b = register_value Xor a b
immediate_value Ori a b = register_value Or a b
immediate_value Andi a b = register_value And a b
immediate_value Addiw a b = register_value Addw a b

abbrev pub shift_value : ShiftOp → ℕ → ℕ → ℕ
shift_value Slli a n = register_value Sll a n
shift_value Srli a n = register_value Srl a n
shift_value Srai a n = register_value Sra a n

abbrev pub shift_word_value : ShiftWordOp → ℕ → ℕ → ℕ
shift_word_value Slliw a n = register_value Sllw a n
shift_word_value Srliw a n = register_value Srlw a n
shift_word_value Sraiw a n = register_value Sraw a n

-- ---- jumps, branches and memory: 'Control Transfer Instructions', 'Load and Store Instructions'

abbrev pub add : ℕ → ℕ → ℕ
add a b = register_value Add a b

abbrev pub upper_value : UpperOp → ℕ → ℕ → ℕ
upper_value Lui pc imm = imm
upper_value Auipc pc imm = add pc imm

-- when a branch is taken
abbrev pub is_taken : BranchOp → ℕ → ℕ → Bool
is_taken Beq a b = a == b
is_taken Bne a b = not (a == b)
is_taken Blt a b = int_lt (signed 64 a) (signed 64 b)
is_taken Bge a b = not (int_lt (signed 64 a) (signed 64 b))
is_taken Bltu a b = nat_lt a b
is_taken Bgeu a b = not (nat_lt a b)

-- the bytes of a load, and whether it extends them by their sign
abbrev pub load_bytes : LoadOp → ℕ
load_bytes Lb = 1
load_bytes Lh = 2
load_bytes Lw = 4
load_bytes Ld = 8
load_bytes Lbu = 1
load_bytes Lhu = 2
load_bytes Lwu = 4

abbrev pub load_signed : LoadOp → Bool
load_signed Lb = true
load_signed Lh = true
load_signed Lw = true
load_signed Ld = true
load_signed Lbu = false
load_signed Lhu = false
load_signed Lwu = false

abbrev pub store_bytes : StoreOp → ℕ
store_bytes Sb = 1
store_bytes Sh = 2
store_bytes Sw = 4
store_bytes Sd = 8

-- an instruction at pc, with the contents of rs1 and rs2. A jump to a register clears bit 0 of its target; FENCE does nothing.
abbrev pub effect : Instr → ℕ → ℕ → ℕ → Effect
effect (Upper op rd imm) pc a b = effects.Value (upper_value op pc (extend 32 (imm.bits * 2 ^ 12)))
effect (Jump rd imm) pc a b = effects.Jump (add pc (extend 21 (imm.bits * 2))) (add pc 4)
effect (JumpTo rd rs1 imm) pc a b = effects.Jump (add a (extend 12 imm.bits) / 2 * 2) (add pc 4)
effect (Branch op rs1 rs2 imm) pc a b = if is_taken op a b then effects.Branch (add pc (extend 13 (imm.bits * 2))) else effects.Next
effect (Load op rd rs1 imm) pc a b = effects.Load (add a (extend 12 imm.bits)) (load_bytes op) (load_signed op)
effect (Store op rs1 rs2 imm) pc a b = effects.Store (add a (extend 12 imm.bits)) (store_bytes op) b
effect (Immediate op rd rs1 imm) pc a b = effects.Value (immediate_value op a (extend 12 imm.bits))
effect (Shift op rd rs1 n) pc a b = effects.Value (shift_value op a n.bits)
effect (ShiftWord op rd rs1 n) pc a b = effects.Value (shift_word_value op a n.bits)
effect (Register op rd rs1 rs2) pc a b = effects.Value (register_value op a b)
effect (Fence rd rs1 imm) pc a b = effects.Next
effect (System Ecall) pc a b = effects.Environment
effect (System Ebreak) pc a b = effects.Breakpoint
