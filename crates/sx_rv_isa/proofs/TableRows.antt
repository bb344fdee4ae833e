-- What holds of each row of the table, row by row.
use Rattle.std.proofs.Common.{◌≡◌, ℕ, ◌<◌, ◌/◌, lit<, refl, Some}
use Rattle.sx_rv_isa.specs.Words.{decoded_at, flow_at, memory_at, arithmetic_at, rd, rs1, rs2, upper, i_imm, s_imm, b_imm, amount_5, amount_6}
use Rattle.sx_rv_isa.specs.Table.{IsRow, upper_row, upper_at, branch_row, branch_at, load_row, load_at, store_row, store_at, immediate_row, immediate_at, shift_row, shift_at, shift_word_row, shift_word_at, register_row, register_at}
use Rattle.sx_rv_isa.specs.declared.instructions.Instr.TheVariants.{Upper, Branch, Load, Store, Immediate, Shift, ShiftWord, Register}
use Rattle.sx_rv_isa.specs.declared.instructions.UpperOp.{UpperOp}
use Rattle.sx_rv_isa.specs.declared.instructions.UpperOp.TheVariants.{Lui, Auipc}
use Rattle.sx_rv_isa.specs.declared.instructions.BranchOp.{BranchOp}
use Rattle.sx_rv_isa.specs.declared.instructions.BranchOp.TheVariants.{Beq, Bne, Blt, Bge, Bltu, Bgeu}
use Rattle.sx_rv_isa.specs.declared.instructions.LoadOp.{LoadOp}
use Rattle.sx_rv_isa.specs.declared.instructions.LoadOp.TheVariants.{Lb, Lh, Lw, Ld, Lbu, Lhu, Lwu}
use Rattle.sx_rv_isa.specs.declared.instructions.StoreOp.{StoreOp}
use Rattle.sx_rv_isa.specs.declared.instructions.StoreOp.TheVariants.{Sb, Sh, Sw, Sd}
use Rattle.sx_rv_isa.specs.declared.instructions.ImmediateOp.{ImmediateOp}
use Rattle.sx_rv_isa.specs.declared.instructions.ImmediateOp.TheVariants.{Addi, Slti, Sltiu, Xori, Ori, Andi, Addiw}
use Rattle.sx_rv_isa.specs.declared.instructions.ShiftOp.{ShiftOp}
use Rattle.sx_rv_isa.specs.declared.instructions.ShiftOp.TheVariants.{Slli, Srli, Srai}
use Rattle.sx_rv_isa.specs.declared.instructions.ShiftWordOp.{ShiftWordOp}
use Rattle.sx_rv_isa.specs.declared.instructions.ShiftWordOp.TheVariants.{Slliw, Srliw, Sraiw}
use Rattle.sx_rv_isa.specs.declared.instructions.RegisterOp.{RegisterOp}
use Rattle.sx_rv_isa.specs.declared.instructions.RegisterOp.TheVariants.{Add, Sub, Sll, Slt, Sltu, Xor, Srl, Sra, Or, And, Mul, Mulh, Mulhsu, Mulhu, Div, Divu, Rem, Remu, Addw, Subw, Sllw, Srlw, Sraw, Mulw, Divw, Divuw, Remw, Remuw}

pub upper_is_row : (op : UpperOp) → IsRow (upper_row op)
upper_is_row Lui = record { opcode = lit< tt; funct3 = lit< tt; funct7 = lit< tt }
upper_is_row Auipc = record { opcode = lit< tt; funct3 = lit< tt; funct7 = lit< tt }

pub upper_decodes : (op : UpperOp) (f g w : ℕ) → decoded_at (upper_row op).opcode f g w ≡ Some (Upper op (rd w) (upper w))
unfolding decoded_at flow_at memory_at arithmetic_at upper_at branch_at load_at store_at immediate_at shift_at shift_word_at register_at
upper_decodes Lui f g w = refl
upper_decodes Auipc f g w = refl

pub branch_is_row : (op : BranchOp) → IsRow (branch_row op)
branch_is_row Beq = record { opcode = lit< tt; funct3 = lit< tt; funct7 = lit< tt }
branch_is_row Bne = record { opcode = lit< tt; funct3 = lit< tt; funct7 = lit< tt }
branch_is_row Blt = record { opcode = lit< tt; funct3 = lit< tt; funct7 = lit< tt }
branch_is_row Bge = record { opcode = lit< tt; funct3 = lit< tt; funct7 = lit< tt }
branch_is_row Bltu = record { opcode = lit< tt; funct3 = lit< tt; funct7 = lit< tt }
branch_is_row Bgeu = record { opcode = lit< tt; funct3 = lit< tt; funct7 = lit< tt }

pub branch_decodes : (op : BranchOp) (g w : ℕ) → decoded_at (branch_row op).opcode (branch_row op).funct3 g w ≡ Some (Branch op (rs1 w) (rs2 w) (b_imm w))
unfolding decoded_at flow_at memory_at arithmetic_at upper_at branch_at load_at store_at immediate_at shift_at shift_word_at register_at
branch_decodes Beq g w = refl
branch_decodes Bne g w = refl
branch_decodes Blt g w = refl
branch_decodes Bge g w = refl
branch_decodes Bltu g w = refl
branch_decodes Bgeu g w = refl

pub load_is_row : (op : LoadOp) → IsRow (load_row op)
load_is_row Lb = record { opcode = lit< tt; funct3 = lit< tt; funct7 = lit< tt }
load_is_row Lh = record { opcode = lit< tt; funct3 = lit< tt; funct7 = lit< tt }
load_is_row Lw = record { opcode = lit< tt; funct3 = lit< tt; funct7 = lit< tt }
load_is_row Ld = record { opcode = lit< tt; funct3 = lit< tt; funct7 = lit< tt }
load_is_row Lbu = record { opcode = lit< tt; funct3 = lit< tt; funct7 = lit< tt }
load_is_row Lhu = record { opcode = lit< tt; funct3 = lit< tt; funct7 = lit< tt }
load_is_row Lwu = record { opcode = lit< tt; funct3 = lit< tt; funct7 = lit< tt }

pub load_decodes : (op : LoadOp) (g w : ℕ) → decoded_at (load_row op).opcode (load_row op).funct3 g w ≡ Some (Load op (rd w) (rs1 w) (i_imm w))
unfolding decoded_at flow_at memory_at arithmetic_at upper_at branch_at load_at store_at immediate_at shift_at shift_word_at register_at
load_decodes Lb g w = refl
load_decodes Lh g w = refl
load_decodes Lw g w = refl
load_decodes Ld g w = refl
load_decodes Lbu g w = refl
load_decodes Lhu g w = refl
load_decodes Lwu g w = refl

pub store_is_row : (op : StoreOp) → IsRow (store_row op)
store_is_row Sb = record { opcode = lit< tt; funct3 = lit< tt; funct7 = lit< tt }
store_is_row Sh = record { opcode = lit< tt; funct3 = lit< tt; funct7 = lit< tt }
store_is_row Sw = record { opcode = lit< tt; funct3 = lit< tt; funct7 = lit< tt }
store_is_row Sd = record { opcode = lit< tt; funct3 = lit< tt; funct7 = lit< tt }

pub store_decodes : (op : StoreOp) (g w : ℕ) → decoded_at (store_row op).opcode (store_row op).funct3 g w ≡ Some (Store op (rs1 w) (rs2 w) (s_imm w))
unfolding decoded_at flow_at memory_at arithmetic_at upper_at branch_at load_at store_at immediate_at shift_at shift_word_at register_at
store_decodes Sb g w = refl
store_decodes Sh g w = refl
store_decodes Sw g w = refl
store_decodes Sd g w = refl

pub immediate_is_row : (op : ImmediateOp) → IsRow (immediate_row op)
immediate_is_row Addi = record { opcode = lit< tt; funct3 = lit< tt; funct7 = lit< tt }
immediate_is_row Slti = record { opcode = lit< tt; funct3 = lit< tt; funct7 = lit< tt }
immediate_is_row Sltiu = record { opcode = lit< tt; funct3 = lit< tt; funct7 = lit< tt }
immediate_is_row Xori = record { opcode = lit< tt; funct3 = lit< tt; funct7 = lit< tt }
immediate_is_row Ori = record { opcode = lit< tt; funct3 = lit< tt; funct7 = lit< tt }
immediate_is_row Andi = record { opcode = lit< tt; funct3 = lit< tt; funct7 = lit< tt }
immediate_is_row Addiw = record { opcode = lit< tt; funct3 = lit< tt; funct7 = lit< tt }

pub immediate_decodes : (op : ImmediateOp) (g w : ℕ) → decoded_at (immediate_row op).opcode (immediate_row op).funct3 g w ≡ Some (Immediate op (rd w) (rs1 w) (i_imm w))
unfolding decoded_at flow_at memory_at arithmetic_at upper_at branch_at load_at store_at immediate_at shift_at shift_word_at register_at
immediate_decodes Addi g w = refl
immediate_decodes Slti g w = refl
immediate_decodes Sltiu g w = refl
immediate_decodes Xori g w = refl
immediate_decodes Ori g w = refl
immediate_decodes Andi g w = refl
immediate_decodes Addiw g w = refl

pub shift_is_row : (op : ShiftOp) → IsRow (shift_row op)
shift_is_row Slli = record { opcode = lit< tt; funct3 = lit< tt; funct7 = lit< tt }
shift_is_row Srli = record { opcode = lit< tt; funct3 = lit< tt; funct7 = lit< tt }
shift_is_row Srai = record { opcode = lit< tt; funct3 = lit< tt; funct7 = lit< tt }

pub shift_decodes : (op : ShiftOp) (g w : ℕ) → g / 2 ≡ (shift_row op).funct7 → decoded_at (shift_row op).opcode (shift_row op).funct3 g w ≡ Some (Shift op (rd w) (rs1 w) (amount_6 w))
unfolding decoded_at flow_at memory_at arithmetic_at upper_at branch_at load_at store_at immediate_at shift_at shift_word_at register_at
shift_decodes Slli g w h = rw h refl
shift_decodes Srli g w h = rw h refl
shift_decodes Srai g w h = rw h refl

pub shift_small : (op : ShiftOp) → (shift_row op).funct7 < 64
shift_small Slli = lit< tt
shift_small Srli = lit< tt
shift_small Srai = lit< tt

pub shift_word_is_row : (op : ShiftWordOp) → IsRow (shift_word_row op)
shift_word_is_row Slliw = record { opcode = lit< tt; funct3 = lit< tt; funct7 = lit< tt }
shift_word_is_row Srliw = record { opcode = lit< tt; funct3 = lit< tt; funct7 = lit< tt }
shift_word_is_row Sraiw = record { opcode = lit< tt; funct3 = lit< tt; funct7 = lit< tt }

pub shift_word_decodes : (op : ShiftWordOp) (w : ℕ) → decoded_at (shift_word_row op).opcode (shift_word_row op).funct3 (shift_word_row op).funct7 w ≡ Some (ShiftWord op (rd w) (rs1 w) (amount_5 w))
unfolding decoded_at flow_at memory_at arithmetic_at upper_at branch_at load_at store_at immediate_at shift_at shift_word_at register_at
shift_word_decodes Slliw w = refl
shift_word_decodes Srliw w = refl
shift_word_decodes Sraiw w = refl

pub register_is_row : (op : RegisterOp) → IsRow (register_row op)
register_is_row Add = record { opcode = lit< tt; funct3 = lit< tt; funct7 = lit< tt }
register_is_row Sub = record { opcode = lit< tt; funct3 = lit< tt; funct7 = lit< tt }
register_is_row Sll = record { opcode = lit< tt; funct3 = lit< tt; funct7 = lit< tt }
register_is_row Slt = record { opcode = lit< tt; funct3 = lit< tt; funct7 = lit< tt }
register_is_row Sltu = record { opcode = lit< tt; funct3 = lit< tt; funct7 = lit< tt }
register_is_row Xor = record { opcode = lit< tt; funct3 = lit< tt; funct7 = lit< tt }
register_is_row Srl = record { opcode = lit< tt; funct3 = lit< tt; funct7 = lit< tt }
register_is_row Sra = record { opcode = lit< tt; funct3 = lit< tt; funct7 = lit< tt }
register_is_row Or = record { opcode = lit< tt; funct3 = lit< tt; funct7 = lit< tt }
register_is_row And = record { opcode = lit< tt; funct3 = lit< tt; funct7 = lit< tt }
register_is_row Mul = record { opcode = lit< tt; funct3 = lit< tt; funct7 = lit< tt }
register_is_row Mulh = record { opcode = lit< tt; funct3 = lit< tt; funct7 = lit< tt }
register_is_row Mulhsu = record { opcode = lit< tt; funct3 = lit< tt; funct7 = lit< tt }
register_is_row Mulhu = record { opcode = lit< tt; funct3 = lit< tt; funct7 = lit< tt }
register_is_row Div = record { opcode = lit< tt; funct3 = lit< tt; funct7 = lit< tt }
register_is_row Divu = record { opcode = lit< tt; funct3 = lit< tt; funct7 = lit< tt }
register_is_row Rem = record { opcode = lit< tt; funct3 = lit< tt; funct7 = lit< tt }
register_is_row Remu = record { opcode = lit< tt; funct3 = lit< tt; funct7 = lit< tt }
register_is_row Addw = record { opcode = lit< tt; funct3 = lit< tt; funct7 = lit< tt }
register_is_row Subw = record { opcode = lit< tt; funct3 = lit< tt; funct7 = lit< tt }
register_is_row Sllw = record { opcode = lit< tt; funct3 = lit< tt; funct7 = lit< tt }
register_is_row Srlw = record { opcode = lit< tt; funct3 = lit< tt; funct7 = lit< tt }
register_is_row Sraw = record { opcode = lit< tt; funct3 = lit< tt; funct7 = lit< tt }
register_is_row Mulw = record { opcode = lit< tt; funct3 = lit< tt; funct7 = lit< tt }
register_is_row Divw = record { opcode = lit< tt; funct3 = lit< tt; funct7 = lit< tt }
register_is_row Divuw = record { opcode = lit< tt; funct3 = lit< tt; funct7 = lit< tt }
register_is_row Remw = record { opcode = lit< tt; funct3 = lit< tt; funct7 = lit< tt }
register_is_row Remuw = record { opcode = lit< tt; funct3 = lit< tt; funct7 = lit< tt }

pub register_decodes : (op : RegisterOp) (w : ℕ) → decoded_at (register_row op).opcode (register_row op).funct3 (register_row op).funct7 w ≡ Some (Register op (rd w) (rs1 w) (rs2 w))
unfolding decoded_at flow_at memory_at arithmetic_at upper_at branch_at load_at store_at immediate_at shift_at shift_word_at register_at
register_decodes Add w = refl
register_decodes Sub w = refl
register_decodes Sll w = refl
register_decodes Slt w = refl
register_decodes Sltu w = refl
register_decodes Xor w = refl
register_decodes Srl w = refl
register_decodes Sra w = refl
register_decodes Or w = refl
register_decodes And w = refl
register_decodes Mul w = refl
register_decodes Mulh w = refl
register_decodes Mulhsu w = refl
register_decodes Mulhu w = refl
register_decodes Div w = refl
register_decodes Divu w = refl
register_decodes Rem w = refl
register_decodes Remu w = refl
register_decodes Addw w = refl
register_decodes Subw w = refl
register_decodes Sllw w = refl
register_decodes Srlw w = refl
register_decodes Sraw w = refl
register_decodes Mulw w = refl
register_decodes Divw w = refl
register_decodes Divuw w = refl
register_decodes Remw w = refl
register_decodes Remuw w = refl
