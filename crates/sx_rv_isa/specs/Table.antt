-- The table of RV64IM: the fixed fields of each operation.
-- RISC-V Unprivileged ISA, 'RV32/64G Instruction Set Listings': the tables of RV32I, RV64I, RV32M and RV64M.
use Rattle.std.specs.Prelude.{ℕ, ◌<◌, ◌==◌, ◌&&◌, Bool, List, [], ◌∷◌, Option, Some, None, if◌then◌else◌}
use Rattle.sx_rv_isa.specs.declared.rows.Row.{Row}
use Rattle.sx_rv_isa.specs.declared.instructions.UpperOp.{UpperOp}
use Rattle.sx_rv_isa.specs.declared.instructions.UpperOp.TheVariants.{Lui, Auipc}
use Rattle.sx_rv_isa.specs.declared.instructions.BranchOp.{BranchOp}
use Rattle.sx_rv_isa.specs.declared.instructions.BranchOp.TheVariants.{Beq, Bne, Blt, Bge, Bltu, Bgeu}
use Rattle.sx_rv_isa.specs.declared.instructions.LoadOp.{LoadOp}
use Rattle.sx_rv_isa.specs.declared.instructions.LoadOp.TheVariants.{Lb, Lh, Lw, Ld, Lbu, Lhu, Lwu}
use Rattle.sx_rv_isa.specs.declared.instructions.StoreOp.{StoreOp}
use Rattle.sx_rv_isa.specs.declared.instructions.StoreOp.TheVariants.{Sb, Sh, Sw, Sd}
use Rattle.sx_rv_isa.specs.declared.instructions.ImmediateOp.{ImmediateOp}
use Rattle.sx_rv_isa.specs.declared.instructions.ImmediateOp.TheVariants.{Addi, Slti, Sltiu, Xori, Ori, Andi, Addiw}
use Rattle.sx_rv_isa.specs.declared.instructions.ShiftOp.{ShiftOp}
use Rattle.sx_rv_isa.specs.declared.instructions.ShiftOp.TheVariants.{Slli, Srli, Srai}
use Rattle.sx_rv_isa.specs.declared.instructions.ShiftWordOp.{ShiftWordOp}
use Rattle.sx_rv_isa.specs.declared.instructions.ShiftWordOp.TheVariants.{Slliw, Srliw, Sraiw}
use Rattle.sx_rv_isa.specs.declared.instructions.RegisterOp.{RegisterOp}
use Rattle.sx_rv_isa.specs.declared.instructions.RegisterOp.TheVariants.{Add, Sub, Sll, Slt, Sltu, Xor, Srl, Sra, Or, And, Mul, Mulh, Mulhsu, Mulhu, Div, Divu, Rem, Remu, Addw, Subw, Sllw, Srlw, Sraw, Mulw, Divw, Divuw, Remw, Remuw}

-- opcode, funct3 and funct7, each 0 where a format has none
abbrev pub row : ℕ → ℕ → ℕ → Row
row op f3 f7 = record { opcode = op; funct3 = f3; funct7 = f7 }

-- the fixed fields are within their ranges
pub record IsRow (r : Row) : Type 0 where
  pub opcode : r.opcode < 128
  pub funct3 : r.funct3 < 8
  pub funct7 : r.funct7 < 128

abbrev pub same : Row → Row → Bool
same a b = (a.opcode == b.opcode) && (a.funct3 == b.funct3) && (a.funct7 == b.funct7)

-- the first operation of a list that has these fixed fields
abbrev pub op_with : {Op : Type 0} → (Op → Row) → Row → List Op → Option Op
op_with row_of r [] = None
op_with row_of r (op ∷ ops) = if same (row_of op) r then Some op else op_with row_of r ops

-- ---- RV32I, 'Integer Register-Immediate Instructions': LUI and AUIPC, format U
abbrev pub upper_row : UpperOp → Row
upper_row Lui = row 0b0110111 0 0
upper_row Auipc = row 0b0010111 0 0

abbrev pub all_upper : List UpperOp
all_upper = Lui ∷ Auipc ∷ []

unfoldable pub upper_at : ℕ → Option UpperOp
upper_at o = op_with upper_row (row o 0 0) all_upper

-- ---- RV32I, 'Conditional Branches', format B
abbrev pub branch_row : BranchOp → Row
branch_row Beq = row 0b1100011 0b000 0
branch_row Bne = row 0b1100011 0b001 0
branch_row Blt = row 0b1100011 0b100 0
branch_row Bge = row 0b1100011 0b101 0
branch_row Bltu = row 0b1100011 0b110 0
branch_row Bgeu = row 0b1100011 0b111 0

abbrev pub all_branch : List BranchOp
all_branch = Beq ∷ Bne ∷ Blt ∷ Bge ∷ Bltu ∷ Bgeu ∷ []

unfoldable pub branch_at : ℕ → ℕ → Option BranchOp
branch_at o f = op_with branch_row (row o f 0) all_branch

-- ---- RV32I and RV64I, 'Load and Store Instructions': loads, format I
abbrev pub load_row : LoadOp → Row
load_row Lb = row 0b0000011 0b000 0
load_row Lh = row 0b0000011 0b001 0
load_row Lw = row 0b0000011 0b010 0
load_row Ld = row 0b0000011 0b011 0
load_row Lbu = row 0b0000011 0b100 0
load_row Lhu = row 0b0000011 0b101 0
load_row Lwu = row 0b0000011 0b110 0

abbrev pub all_load : List LoadOp
all_load = Lb ∷ Lh ∷ Lw ∷ Ld ∷ Lbu ∷ Lhu ∷ Lwu ∷ []

unfoldable pub load_at : ℕ → ℕ → Option LoadOp
load_at o f = op_with load_row (row o f 0) all_load

-- ---- RV32I and RV64I, 'Load and Store Instructions': stores, format S
abbrev pub store_row : StoreOp → Row
store_row Sb = row 0b0100011 0b000 0
store_row Sh = row 0b0100011 0b001 0
store_row Sw = row 0b0100011 0b010 0
store_row Sd = row 0b0100011 0b011 0

abbrev pub all_store : List StoreOp
all_store = Sb ∷ Sh ∷ Sw ∷ Sd ∷ []

unfoldable pub store_at : ℕ → ℕ → Option StoreOp
store_at o f = op_with store_row (row o f 0) all_store

-- ---- RV32I and RV64I, 'Integer Register-Immediate Instructions', format I
abbrev pub immediate_row : ImmediateOp → Row
immediate_row Addi = row 0b0010011 0b000 0
immediate_row Slti = row 0b0010011 0b010 0
immediate_row Sltiu = row 0b0010011 0b011 0
immediate_row Xori = row 0b0010011 0b100 0
immediate_row Ori = row 0b0010011 0b110 0
immediate_row Andi = row 0b0010011 0b111 0
immediate_row Addiw = row 0b0011011 0b000 0

abbrev pub all_immediate : List ImmediateOp
all_immediate = Addi ∷ Slti ∷ Sltiu ∷ Xori ∷ Ori ∷ Andi ∷ Addiw ∷ []

unfoldable pub immediate_at : ℕ → ℕ → Option ImmediateOp
immediate_at o f = op_with immediate_row (row o f 0) all_immediate

-- ---- RV64I, 'Integer Register-Immediate Instructions': shifts of 64 bits, with funct6 and an amount of six bits
abbrev pub shift_row : ShiftOp → Row
shift_row Slli = row 0b0010011 0b001 0b000000
shift_row Srli = row 0b0010011 0b101 0b000000
shift_row Srai = row 0b0010011 0b101 0b010000

abbrev pub all_shift : List ShiftOp
all_shift = Slli ∷ Srli ∷ Srai ∷ []

unfoldable pub shift_at : ℕ → ℕ → ℕ → Option ShiftOp
shift_at o f g = op_with shift_row (row o f g) all_shift

-- ---- RV64I, 'Integer Register-Immediate Instructions': shifts of 32 bits, with funct7 and an amount of five bits
abbrev pub shift_word_row : ShiftWordOp → Row
shift_word_row Slliw = row 0b0011011 0b001 0b0000000
shift_word_row Srliw = row 0b0011011 0b101 0b0000000
shift_word_row Sraiw = row 0b0011011 0b101 0b0100000

abbrev pub all_shift_word : List ShiftWordOp
all_shift_word = Slliw ∷ Srliw ∷ Sraiw ∷ []

unfoldable pub shift_word_at : ℕ → ℕ → ℕ → Option ShiftWordOp
shift_word_at o f g = op_with shift_word_row (row o f g) all_shift_word

-- ---- RV32I and RV64I, 'Integer Register-Register Operations'; the M extension, 'Multiplication Operations' and 'Division Operations'; format R
abbrev pub register_row : RegisterOp → Row
register_row Add = row 0b0110011 0b000 0b0000000
register_row Sub = row 0b0110011 0b000 0b0100000
register_row Sll = row 0b0110011 0b001 0b0000000
register_row Slt = row 0b0110011 0b010 0b0000000
register_row Sltu = row 0b0110011 0b011 0b0000000
register_row Xor = row 0b0110011 0b100 0b0000000
register_row Srl = row 0b0110011 0b101 0b0000000
register_row Sra = row 0b0110011 0b101 0b0100000
register_row Or = row 0b0110011 0b110 0b0000000
register_row And = row 0b0110011 0b111 0b0000000
register_row Mul = row 0b0110011 0b000 0b0000001
register_row Mulh = row 0b0110011 0b001 0b0000001
register_row Mulhsu = row 0b0110011 0b010 0b0000001
register_row Mulhu = row 0b0110011 0b011 0b0000001
register_row Div = row 0b0110011 0b100 0b0000001
register_row Divu = row 0b0110011 0b101 0b0000001
register_row Rem = row 0b0110011 0b110 0b0000001
register_row Remu = row 0b0110011 0b111 0b0000001
register_row Addw = row 0b0111011 0b000 0b0000000
register_row Subw = row 0b0111011 0b000 0b0100000
register_row Sllw = row 0b0111011 0b001 0b0000000
register_row Srlw = row 0b0111011 0b101 0b0000000
register_row Sraw = row 0b0111011 0b101 0b0100000
register_row Mulw = row 0b0111011 0b000 0b0000001
register_row Divw = row 0b0111011 0b100 0b0000001
register_row Divuw = row 0b0111011 0b101 0b0000001
register_row Remw = row 0b0111011 0b110 0b0000001
register_row Remuw = row 0b0111011 0b111 0b0000001

abbrev pub all_register : List RegisterOp
all_register = Add ∷ Sub ∷ Sll ∷ Slt ∷ Sltu ∷ Xor ∷ Srl ∷ Sra ∷ Or ∷ And ∷ Mul ∷ Mulh ∷ Mulhsu ∷ Mulhu ∷ Div ∷ Divu ∷ Rem ∷ Remu ∷ Addw ∷ Subw ∷ Sllw ∷ Srlw ∷ Sraw ∷ Mulw ∷ Divw ∷ Divuw ∷ Remw ∷ Remuw ∷ []

unfoldable pub register_at : ℕ → ℕ → ℕ → Option RegisterOp
register_at o f g = op_with register_row (row o f g) all_register
