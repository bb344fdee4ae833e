-- The word of each instruction, and the instruction of a word.
-- RISC-V Unprivileged ISA, RV32I, 'Base Instruction Formats' and 'Immediate Encoding Variants'.
use Rattle.std.specs.Prelude.{ℕ, ◌+◌, ◌*◌, ◌/◌, ◌%◌, ◌^◌, ◌==◌, ◌&&◌, Option, Some, None, option_map, if◌then◌else◌}
use Rattle.std.proofs.Common.{lit<}
use Rattle.std.proofs.lemmas.Nat.{mod_below}
use Rattle.sx_rv_isa.specs.declared.fields.Reg.{Reg}
use Rattle.sx_rv_isa.specs.declared.fields.Imm12.{Imm12}
use Rattle.sx_rv_isa.specs.declared.fields.Imm20.{Imm20}
use Rattle.sx_rv_isa.specs.declared.fields.Amount5.{Amount5}
use Rattle.sx_rv_isa.specs.declared.fields.Amount6.{Amount6}
use Rattle.sx_rv_isa.specs.declared.rows.Row.{Row}
use Rattle.sx_rv_isa.specs.declared.instructions.SystemOp.TheVariants.{Ecall, Ebreak}
use Rattle.sx_rv_isa.specs.declared.instructions.Instr.{Instr}
use Rattle.sx_rv_isa.specs.declared.instructions.Instr.TheVariants.{Upper, Jump, JumpTo, Branch, Load, Store, Immediate, Shift, ShiftWord, Register, Fence, System}
use Rattle.sx_rv_isa.specs.Table.{row, upper_row, branch_row, load_row, store_row, immediate_row, shift_row, shift_word_row, register_row, upper_at, branch_at, load_at, store_at, immediate_at, shift_at, shift_word_at, register_at}

-- ---- words

-- the six fields: opcode at bit 0, rd at 7, funct3 at 12, rs1 at 15, rs2 at 20, funct7 at 25
unfoldable pub pack : ℕ → ℕ → ℕ → ℕ → ℕ → ℕ → ℕ
pack op d f3 a b f7 = op + d * 2 ^ 7 + f3 * 2 ^ 12 + a * 2 ^ 15 + b * 2 ^ 20 + f7 * 2 ^ 25

-- formats U and J: opcode at bit 0, rd at 7, and twenty bits at 12
unfoldable pub pack_upper : ℕ → ℕ → ℕ → ℕ
pack_upper op d upper_bits = op + d * 2 ^ 7 + upper_bits * 2 ^ 12

-- formats R, I, S, B and J, by the fixed fields, the registers and the bits of the immediate. The offset of a branch or
-- a jump is twice the number that its bits stand for: its bit 0 is always 0 and is not kept.
abbrev pub r_word : Row → ℕ → ℕ → ℕ → ℕ
r_word r d a b = pack r.opcode d r.funct3 a b r.funct7

abbrev pub i_word : Row → ℕ → ℕ → ℕ → ℕ
i_word r d a imm = pack r.opcode d r.funct3 a (imm % 2 ^ 5) (imm / 2 ^ 5)

abbrev pub s_word : Row → ℕ → ℕ → ℕ → ℕ
s_word r a b imm = pack r.opcode (imm % 2 ^ 5) r.funct3 a b (imm / 2 ^ 5)

-- format B: bit 11 of the offset is at 7, bits 4 to 1 at 8, bits 10 to 5 at 25, bit 12 at 31
abbrev pub b_word : Row → ℕ → ℕ → ℕ → ℕ
b_word r a b imm = pack r.opcode (imm / 2 ^ 10 % 2 + imm % 2 ^ 4 * 2) r.funct3 a b (imm / 2 ^ 4 % 2 ^ 6 + imm / 2 ^ 11 * 2 ^ 6)

-- format J: bits 19 to 12 of the offset are at 12, bit 11 at 20, bits 10 to 1 at 21, bit 20 at 31
abbrev pub j_word : ℕ → ℕ → ℕ → ℕ
j_word o d imm = pack_upper o d (imm / 2 ^ 11 % 2 ^ 8 + imm / 2 ^ 10 % 2 * 2 ^ 8 + imm % 2 ^ 10 * 2 ^ 9 + imm / 2 ^ 19 * 2 ^ 19)

-- a shift of 64 bits has funct6 at bit 26 and the amount at 20
abbrev pub shift_word : Row → ℕ → ℕ → ℕ → ℕ
shift_word r d a n = pack r.opcode d r.funct3 a (n % 2 ^ 5) (n / 2 ^ 5 + r.funct7 * 2)

-- the word of an instruction. JAL, JALR and FENCE have one row each; ECALL and EBREAK are one word each.
abbrev pub word_of : Instr → ℕ
word_of (Upper op rd imm) = pack_upper (upper_row op).opcode rd.number imm.bits
word_of (Jump rd imm) = j_word 0b1101111 rd.number imm.bits
word_of (JumpTo rd rs1 imm) = i_word (row 0b1100111 0b000 0) rd.number rs1.number imm.bits
word_of (Branch op rs1 rs2 imm) = b_word (branch_row op) rs1.number rs2.number imm.bits
word_of (Load op rd rs1 imm) = i_word (load_row op) rd.number rs1.number imm.bits
word_of (Store op rs1 rs2 imm) = s_word (store_row op) rs1.number rs2.number imm.bits
word_of (Immediate op rd rs1 imm) = i_word (immediate_row op) rd.number rs1.number imm.bits
word_of (Shift op rd rs1 n) = shift_word (shift_row op) rd.number rs1.number n.bits
word_of (ShiftWord op rd rs1 n) = r_word (shift_word_row op) rd.number rs1.number n.bits
word_of (Register op rd rs1 rs2) = r_word (register_row op) rd.number rs1.number rs2.number
word_of (Fence rd rs1 imm) = i_word (row 0b0001111 0b000 0) rd.number rs1.number imm.bits
word_of (System Ecall) = 0x00000073
word_of (System Ebreak) = 0x00100073

-- ---- the fields of a word

-- a register, an immediate, an amount: the lowest bits of a number
abbrev pub reg : ℕ → Reg
reg n = record { number = n % 32; in_range = mod_below n 32 (lit< tt) }

abbrev pub imm12 : ℕ → Imm12
imm12 n = record { bits = n % 4096; in_range = mod_below n 4096 (lit< tt) }

abbrev pub imm20 : ℕ → Imm20
imm20 n = record { bits = n % 1048576; in_range = mod_below n 1048576 (lit< tt) }

abbrev pub amount6 : ℕ → Amount6
amount6 n = record { bits = n % 64; in_range = mod_below n 64 (lit< tt) }

abbrev pub amount5 : ℕ → Amount5
amount5 n = record { bits = n % 32; in_range = mod_below n 32 (lit< tt) }

unfoldable pub rd : ℕ → Reg
rd w = reg (w / 2 ^ 7)

unfoldable pub rs1 : ℕ → Reg
rs1 w = reg (w / 2 ^ 15)

unfoldable pub rs2 : ℕ → Reg
rs2 w = reg (w / 2 ^ 20)

unfoldable pub amount_6 : ℕ → Amount6
amount_6 w = amount6 (w / 2 ^ 20)

unfoldable pub amount_5 : ℕ → Amount5
amount_5 w = amount5 (w / 2 ^ 20)

unfoldable pub upper : ℕ → Imm20
upper w = imm20 (w / 2 ^ 12)

unfoldable pub i_imm : ℕ → Imm12
i_imm w = imm12 (w / 2 ^ 20)

unfoldable pub s_imm : ℕ → Imm12
s_imm w = imm12 (w / 2 ^ 7 % 2 ^ 5 + w / 2 ^ 25 * 2 ^ 5)

unfoldable pub b_imm : ℕ → Imm12
b_imm w = imm12 (w / 2 ^ 8 % 2 ^ 4 + w / 2 ^ 25 % 2 ^ 6 * 2 ^ 4 + w / 2 ^ 7 % 2 * 2 ^ 10 + w / 2 ^ 31 * 2 ^ 11)

unfoldable pub j_imm : ℕ → Imm20
j_imm w = imm20 (w / 2 ^ 21 % 2 ^ 10 + w / 2 ^ 20 % 2 * 2 ^ 10 + w / 2 ^ 12 % 2 ^ 8 * 2 ^ 11 + w / 2 ^ 31 * 2 ^ 19)

-- ---- the instruction of a word

infixr 8 ◌or_else◌
abbrev pub ◌or_else◌ : {A : Type 0} → Option A → Option A → Option A
(Some x) or_else y = Some x
None or_else y = y

-- RV32I, 'Environment Call and Breakpoints'
abbrev pub system_of : ℕ → Option Instr
system_of w = if w == 0x00000073 then Some (System Ecall) else if w == 0x00100073 then Some (System Ebreak) else None

-- by opcode, funct3 and funct7: jumps and branches, loads and stores, arithmetic
unfoldable pub flow_at : ℕ → ℕ → ℕ → Option Instr
flow_at o f w =
    (if o == 0b1101111 then Some (Jump (rd w) (j_imm w)) else None)
    or_else (if (o == 0b1100111) && (f == 0) then Some (JumpTo (rd w) (rs1 w) (i_imm w)) else None)
    or_else option_map (λ op. Branch op (rs1 w) (rs2 w) (b_imm w)) (branch_at o f)

unfoldable pub memory_at : ℕ → ℕ → ℕ → Option Instr
memory_at o f w =
    option_map (λ op. Load op (rd w) (rs1 w) (i_imm w)) (load_at o f)
    or_else option_map (λ op. Store op (rs1 w) (rs2 w) (s_imm w)) (store_at o f)
    or_else (if (o == 0b0001111) && (f == 0) then Some (Fence (rd w) (rs1 w) (i_imm w)) else None)

unfoldable pub arithmetic_at : ℕ → ℕ → ℕ → ℕ → Option Instr
arithmetic_at o f g w =
    option_map (λ op. Upper op (rd w) (upper w)) (upper_at o)
    or_else option_map (λ op. Immediate op (rd w) (rs1 w) (i_imm w)) (immediate_at o f)
    or_else option_map (λ op. Shift op (rd w) (rs1 w) (amount_6 w)) (shift_at o f (g / 2))
    or_else option_map (λ op. ShiftWord op (rd w) (rs1 w) (amount_5 w)) (shift_word_at o f g)
    or_else option_map (λ op. Register op (rd w) (rs1 w) (rs2 w)) (register_at o f g)

unfoldable pub decoded_at : ℕ → ℕ → ℕ → ℕ → Option Instr
decoded_at o f g w = flow_at o f w or_else memory_at o f w or_else arithmetic_at o f g w or_else system_of w

-- the instruction of a word, by its opcode, funct3 and funct7
unfoldable pub decoded : ℕ → Option Instr
decoded w = decoded_at (w % 2 ^ 7) (w / 2 ^ 12 % 2 ^ 3) (w / 2 ^ 25) w
