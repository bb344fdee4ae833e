-- The word of an instruction reads as that instruction.
use Rattle.std.proofs.Common.{◌≡◌, subst, ℕ, ◌<◌, ◌%◌, ◌+◌, ◌*◌, ◌/◌, ◌^◌, arith, refl, ap, sym, ◌∙◌, Option, Some, None, lit<}
use Rattle.std.specs.Prelude.{IfNone, ◌≢◌}
use Rattle.std.proofs.lemmas.Nat.{mod_below}
use Rattle.sx_rv_isa.specs.declared.rows.Row.{Row}
use Rattle.sx_rv_isa.specs.declared.fields.Reg.{Reg}
use Rattle.sx_rv_isa.specs.declared.fields.Imm12.{Imm12}
use Rattle.sx_rv_isa.specs.declared.fields.Imm20.{Imm20}
use Rattle.sx_rv_isa.specs.declared.fields.Amount5.{Amount5}
use Rattle.sx_rv_isa.specs.declared.fields.Amount6.{Amount6}
use Rattle.sx_rv_isa.specs.Table.{IsRow, row, upper_row, branch_row, load_row, store_row, immediate_row, shift_row, shift_word_row, register_row}
use Rattle.sx_rv_isa.specs.Words.{pack, pack_upper, word_of, rd, rs1, rs2, upper, i_imm, s_imm, b_imm, j_imm, amount_5, amount_6, decoded, decoded_at, flow_at, memory_at, arithmetic_at}
use Rattle.sx_rv_isa.specs.Table.{upper_at, branch_at, load_at, store_at, immediate_at, shift_at, shift_word_at, register_at}
use Rattle.sx_rv_isa.proofs.Ranges.{reg_of, imm12_of, imm20_of, amount5_of, amount6_of}
use Rattle.sx_rv_isa.proofs.Pack.{pack_fits, pack_upper_fits, InRange, opcode-pack, rd-pack, funct3-pack, rs1-pack, rs2-pack, funct7-pack, opcode-upper, rd-upper, upper-upper}
use Rattle.sx_rv_isa.proofs.TableRows.{upper_is_row, branch_is_row, load_is_row, store_is_row, immediate_is_row, shift_is_row, shift_word_is_row, register_is_row, upper_decodes, branch_decodes, load_decodes, store_decodes, immediate_decodes, shift_decodes, shift_word_decodes, register_decodes, shift_small}
use Rattle.sx_rv_isa.specs.declared.instructions.UpperOp.{UpperOp}
use Rattle.sx_rv_isa.specs.declared.instructions.BranchOp.{BranchOp}
use Rattle.sx_rv_isa.specs.declared.instructions.LoadOp.{LoadOp}
use Rattle.sx_rv_isa.specs.declared.instructions.StoreOp.{StoreOp}
use Rattle.sx_rv_isa.specs.declared.instructions.ImmediateOp.{ImmediateOp}
use Rattle.sx_rv_isa.specs.declared.instructions.ShiftOp.{ShiftOp}
use Rattle.sx_rv_isa.specs.declared.instructions.ShiftWordOp.{ShiftWordOp}
use Rattle.sx_rv_isa.specs.declared.instructions.RegisterOp.{RegisterOp}
use Rattle.sx_rv_isa.specs.declared.instructions.SystemOp.{SystemOp}
use Rattle.sx_rv_isa.specs.declared.instructions.Instr.{Instr}
use Rattle.sx_rv_isa.specs.declared.instructions.Instr.TheVariants.{Upper, Jump, JumpTo, Branch, Load, Store, Immediate, Shift, ShiftWord, Register, Fence, System}
use Rattle.sx_rv_isa.specs.declared.instructions.SystemOp.TheVariants.{Ecall, Ebreak}

-- ---- the fields of a packed word
rd_is : (o d f a b g : ℕ) (r : Reg) → r.number ≡ d → InRange o d f a b g → rd (pack o d f a b g) ≡ r
unfolding rd
rd_is o d f a b g r e h = reg_of r (pack o d f a b g / 2 ^ 7) (rd-pack o d f a b g h ∙ sym e)

rs1_is : (o d f a b g : ℕ) (r : Reg) → r.number ≡ a → InRange o d f a b g → rs1 (pack o d f a b g) ≡ r
unfolding rs1
rs1_is o d f a b g r e h = reg_of r (pack o d f a b g / 2 ^ 15) (rs1-pack o d f a b g h ∙ sym e)

low_of : (q b g : ℕ) → q ≡ b + g * 32 → b < 32 → q % 32 ≡ b
low_of q b g e h = omega arith

rs2_is : (o d f a b g : ℕ) (r : Reg) → r.number ≡ b → InRange o d f a b g → rs2 (pack o d f a b g) ≡ r
unfolding rs2
rs2_is o d f a b g r e h = reg_of r (pack o d f a b g / 2 ^ 20) (low_of _ b g (rs2-pack o d f a b g h) h.rs2 ∙ sym e)

amount5_is : (o d f a b g : ℕ) (r : Amount5) → r.bits ≡ b → InRange o d f a b g → amount_5 (pack o d f a b g) ≡ r
unfolding amount_5
amount5_is o d f a b g r e h = amount5_of r (pack o d f a b g / 2 ^ 20) (low_of _ b g (rs2-pack o d f a b g h) h.rs2 ∙ sym e)

low6 : (q n b g s : ℕ) → q ≡ b + g * 32 → b ≡ n % 2 ^ 5 → g ≡ n / 2 ^ 5 + s * 2 → n < 64 → q % 64 ≡ n
low6 q n b g s e p r h = omega arith

amount6_is : (o d f a b g s : ℕ) (r : Amount6) → b ≡ r.bits % 2 ^ 5 → g ≡ r.bits / 2 ^ 5 + s * 2 → InRange o d f a b g → amount_6 (pack o d f a b g) ≡ r
unfolding amount_6
amount6_is o d f a b g s r p q h = amount6_of r (pack o d f a b g / 2 ^ 20) (low6 _ r.bits b g s (rs2-pack o d f a b g h) p q r.in_range)

low12 : (q n b g : ℕ) → q ≡ b + g * 32 → b ≡ n % 2 ^ 5 → g ≡ n / 2 ^ 5 → n < 4096 → q % 4096 ≡ n
low12 q n b g e p r h = omega arith

i_is : (o d f a b g : ℕ) (r : Imm12) → b ≡ r.bits % 2 ^ 5 → g ≡ r.bits / 2 ^ 5 → InRange o d f a b g → i_imm (pack o d f a b g) ≡ r
unfolding i_imm
i_is o d f a b g r p q h = imm12_of r (pack o d f a b g / 2 ^ 20) (low12 _ r.bits b g (rs2-pack o d f a b g h) p q r.in_range)

s_join : (w n d g : ℕ) → w / 2 ^ 7 % 32 ≡ d → w / 2 ^ 25 ≡ g → d ≡ n % 2 ^ 5 → g ≡ n / 2 ^ 5 → n < 4096 → (w / 2 ^ 7 % 2 ^ 5 + w / 2 ^ 25 * 2 ^ 5) % 4096 ≡ n
s_join w n d g x y p q h = omega arith

s_is : (o d f a b g : ℕ) (r : Imm12) → d ≡ r.bits % 2 ^ 5 → g ≡ r.bits / 2 ^ 5 → InRange o d f a b g → s_imm (pack o d f a b g) ≡ r
unfolding s_imm
s_is o d f a b g r p q h = imm12_of r _ (s_join (pack o d f a b g) r.bits d g (rd-pack o d f a b g h) (funct7-pack o d f a b g h) p q r.in_range)

b_join : (w n d g : ℕ) → w / 2 ^ 7 % 32 ≡ d → w / 2 ^ 25 ≡ g → d ≡ n / 2 ^ 10 % 2 + n % 2 ^ 4 * 2 → g ≡ n / 2 ^ 4 % 2 ^ 6 + n / 2 ^ 11 * 2 ^ 6 → n < 4096 → (w / 2 ^ 8 % 2 ^ 4 + w / 2 ^ 25 % 2 ^ 6 * 2 ^ 4 + w / 2 ^ 7 % 2 * 2 ^ 10 + w / 2 ^ 31 * 2 ^ 11) % 4096 ≡ n
b_join w n d g x y p q h = omega arith

b_is : (o d f a b g : ℕ) (r : Imm12) → d ≡ r.bits / 2 ^ 10 % 2 + r.bits % 2 ^ 4 * 2 → g ≡ r.bits / 2 ^ 4 % 2 ^ 6 + r.bits / 2 ^ 11 * 2 ^ 6 → InRange o d f a b g → b_imm (pack o d f a b g) ≡ r
unfolding b_imm
b_is o d f a b g r p q h = imm12_of r _ (b_join (pack o d f a b g) r.bits d g (rd-pack o d f a b g h) (funct7-pack o d f a b g h) p q r.in_range)

-- ---- a packed word is read by its fixed fields
packed : (o d f a b g : ℕ) → InRange o d f a b g → decoded (pack o d f a b g) ≡ decoded_at o f g (pack o d f a b g)
unfolding decoded
packed o d f a b g h = rw (opcode-pack o d f a b g h, funct3-pack o d f a b g h, funct7-pack o d f a b g h) refl

-- ---- each format
register_forth : (op : RegisterOp) (d a b : Reg) → decoded (word_of (Register op d a b)) ≡ Some (Register op d a b)
register_forth op d a b =
    let r : Row = register_row op in
    let k : IsRow r = register_is_row op in
    let h : InRange r.opcode d.number r.funct3 a.number b.number r.funct7 = record { opcode = k.opcode; rd = d.in_range; funct3 = k.funct3; rs1 = a.in_range; rs2 = b.in_range; funct7 = k.funct7 } in
    packed _ _ _ _ _ _ h ∙ register_decodes op (word_of (Register op d a b)) ∙ simp (rd_is _ _ _ _ _ _ d refl h, rs1_is _ _ _ _ _ _ a refl h, rs2_is _ _ _ _ _ _ b refl h) refl

low5 : (n : ℕ) → n % 2 ^ 5 < 32
low5 n = mod_below n 32 (lit< tt)

high7 : (n : ℕ) → n < 4096 → n / 2 ^ 5 < 128
high7 n h = omega arith

i_range : (r : Row) → IsRow r → (d a : Reg) (imm : Imm12) → InRange r.opcode d.number r.funct3 a.number (imm.bits % 2 ^ 5) (imm.bits / 2 ^ 5)
i_range r k d a imm = record { opcode = k.opcode; rd = d.in_range; funct3 = k.funct3; rs1 = a.in_range; rs2 = low5 imm.bits; funct7 = high7 imm.bits imm.in_range }

load_forth : (op : LoadOp) (d a : Reg) (imm : Imm12) → decoded (word_of (Load op d a imm)) ≡ Some (Load op d a imm)
load_forth op d a imm =
    let h = i_range (load_row op) (load_is_row op) d a imm in
    packed _ _ _ _ _ _ h ∙ load_decodes op _ (word_of (Load op d a imm)) ∙ simp (rd_is _ _ _ _ _ _ d refl h, rs1_is _ _ _ _ _ _ a refl h, i_is _ _ _ _ _ _ imm refl refl h) refl

immediate_forth : (op : ImmediateOp) (d a : Reg) (imm : Imm12) → decoded (word_of (Immediate op d a imm)) ≡ Some (Immediate op d a imm)
immediate_forth op d a imm =
    let h = i_range (immediate_row op) (immediate_is_row op) d a imm in
    packed _ _ _ _ _ _ h ∙ immediate_decodes op _ (word_of (Immediate op d a imm)) ∙ simp (rd_is _ _ _ _ _ _ d refl h, rs1_is _ _ _ _ _ _ a refl h, i_is _ _ _ _ _ _ imm refl refl h) refl

store_forth : (op : StoreOp) (a b : Reg) (imm : Imm12) → decoded (word_of (Store op a b imm)) ≡ Some (Store op a b imm)
store_forth op a b imm =
    let r : Row = store_row op in
    let k : IsRow r = store_is_row op in
    let h : InRange r.opcode (imm.bits % 2 ^ 5) r.funct3 a.number b.number (imm.bits / 2 ^ 5) = record { opcode = k.opcode; rd = low5 imm.bits; funct3 = k.funct3; rs1 = a.in_range; rs2 = b.in_range; funct7 = high7 imm.bits imm.in_range } in
    packed _ _ _ _ _ _ h ∙ store_decodes op _ (word_of (Store op a b imm)) ∙ simp (rs1_is _ _ _ _ _ _ a refl h, rs2_is _ _ _ _ _ _ b refl h, s_is _ _ _ _ _ _ imm refl refl h) refl

b_low : (n : ℕ) → n / 2 ^ 10 % 2 + n % 2 ^ 4 * 2 < 32
b_low n = omega arith

b_high : (n : ℕ) → n < 4096 → n / 2 ^ 4 % 2 ^ 6 + n / 2 ^ 11 * 2 ^ 6 < 128
b_high n h = omega arith

branch_forth : (op : BranchOp) (a b : Reg) (imm : Imm12) → decoded (word_of (Branch op a b imm)) ≡ Some (Branch op a b imm)
branch_forth op a b imm =
    let r : Row = branch_row op in
    let k : IsRow r = branch_is_row op in
    let h : InRange r.opcode (imm.bits / 2 ^ 10 % 2 + imm.bits % 2 ^ 4 * 2) r.funct3 a.number b.number (imm.bits / 2 ^ 4 % 2 ^ 6 + imm.bits / 2 ^ 11 * 2 ^ 6) = record { opcode = k.opcode; rd = b_low imm.bits; funct3 = k.funct3; rs1 = a.in_range; rs2 = b.in_range; funct7 = b_high imm.bits imm.in_range } in
    packed _ _ _ _ _ _ h ∙ branch_decodes op _ (word_of (Branch op a b imm)) ∙ simp (rs1_is _ _ _ _ _ _ a refl h, rs2_is _ _ _ _ _ _ b refl h, b_is _ _ _ _ _ _ imm refl refl h) refl

shift_word_forth : (op : ShiftWordOp) (d a : Reg) (n : Amount5) → decoded (word_of (ShiftWord op d a n)) ≡ Some (ShiftWord op d a n)
shift_word_forth op d a n =
    let r : Row = shift_word_row op in
    let k : IsRow r = shift_word_is_row op in
    let h : InRange r.opcode d.number r.funct3 a.number n.bits r.funct7 = record { opcode = k.opcode; rd = d.in_range; funct3 = k.funct3; rs1 = a.in_range; rs2 = n.in_range; funct7 = k.funct7 } in
    packed _ _ _ _ _ _ h ∙ shift_word_decodes op (word_of (ShiftWord op d a n)) ∙ simp (rd_is _ _ _ _ _ _ d refl h, rs1_is _ _ _ _ _ _ a refl h, amount5_is _ _ _ _ _ _ n refl h) refl

shift_range : (n s : ℕ) → n < 64 → s < 64 → n / 2 ^ 5 + s * 2 < 128
shift_range n s h k = omega arith

shift_half : (n s : ℕ) → n < 64 → (n / 2 ^ 5 + s * 2) / 2 ≡ s
shift_half n s h = omega arith

shift_forth : (op : ShiftOp) (d a : Reg) (n : Amount6) → decoded (word_of (Shift op d a n)) ≡ Some (Shift op d a n)
shift_forth op d a n =
    let r : Row = shift_row op in
    let k : IsRow r = shift_is_row op in
    let g : ℕ = n.bits / 2 ^ 5 + r.funct7 * 2 in
    let h : InRange r.opcode d.number r.funct3 a.number (n.bits % 2 ^ 5) (n.bits / 2 ^ 5 + r.funct7 * 2) = record { opcode = k.opcode; rd = d.in_range; funct3 = k.funct3; rs1 = a.in_range; rs2 = low5 n.bits; funct7 = shift_range n.bits r.funct7 n.in_range (shift_small op) } in
    packed _ _ _ _ _ _ h ∙ shift_decodes op g (word_of (Shift op d a n)) (shift_half n.bits r.funct7 n.in_range) ∙ simp (rd_is _ _ _ _ _ _ d refl h, rs1_is _ _ _ _ _ _ a refl h, amount6_is _ _ _ _ _ _ r.funct7 n refl refl h) refl

-- the rows with an opcode and funct3 of their own
jump_to_decodes : (g w : ℕ) → decoded_at 0b1100111 0 g w ≡ Some (JumpTo (rd w) (rs1 w) (i_imm w))
unfolding decoded_at flow_at
jump_to_decodes g w = refl

fence_decodes : (g w : ℕ) → decoded_at 0b0001111 0 g w ≡ Some (Fence (rd w) (rs1 w) (i_imm w))
unfolding decoded_at flow_at memory_at branch_at load_at store_at
fence_decodes g w = refl

jump_decodes : (f g w : ℕ) → decoded_at 0b1101111 f g w ≡ Some (Jump (rd w) (j_imm w))
unfolding decoded_at flow_at
jump_decodes f g w = refl

jump_to_row : IsRow (row 0b1100111 0 0)
jump_to_row = record { opcode = lit< tt; funct3 = lit< tt; funct7 = lit< tt }

fence_row : IsRow (row 0b0001111 0 0)
fence_row = record { opcode = lit< tt; funct3 = lit< tt; funct7 = lit< tt }

jump_to_forth : (d a : Reg) (imm : Imm12) → decoded (word_of (JumpTo d a imm)) ≡ Some (JumpTo d a imm)
jump_to_forth d a imm =
    let h = i_range (row 0b1100111 0 0) jump_to_row d a imm in
    packed _ _ _ _ _ _ h ∙ jump_to_decodes _ (word_of (JumpTo d a imm)) ∙ simp (rd_is _ _ _ _ _ _ d refl h, rs1_is _ _ _ _ _ _ a refl h, i_is _ _ _ _ _ _ imm refl refl h) refl

fence_forth : (d a : Reg) (imm : Imm12) → decoded (word_of (Fence d a imm)) ≡ Some (Fence d a imm)
fence_forth d a imm =
    let h = i_range (row 0b0001111 0 0) fence_row d a imm in
    packed _ _ _ _ _ _ h ∙ fence_decodes _ (word_of (Fence d a imm)) ∙ simp (rd_is _ _ _ _ _ _ d refl h, rs1_is _ _ _ _ _ _ a refl h, i_is _ _ _ _ _ _ imm refl refl h) refl

-- ---- opcode, rd and twenty bits
upper_packed : (o d u : ℕ) → o < 128 → d < 32 → decoded (pack_upper o d u) ≡ decoded_at o (pack_upper o d u / 2 ^ 12 % 2 ^ 3) (pack_upper o d u / 2 ^ 25) (pack_upper o d u)
unfolding decoded
upper_packed o d u h k = rw (opcode-upper o d u h k) refl

rd_upper_is : (o d u : ℕ) (r : Reg) → r.number ≡ d → o < 128 → rd (pack_upper o d u) ≡ r
unfolding rd
rd_upper_is o d u r e h = let k : d < 32 = subst (λ (x : ℕ). x < 32) e r.in_range in reg_of r (pack_upper o d u / 2 ^ 7) (rd-upper o d u h k ∙ sym e)

same_low : (q n : ℕ) → q ≡ n → n < 1048576 → q % 1048576 ≡ n
same_low q n e h = omega arith

upper_is : (o : ℕ) (d : Reg) (r : Imm20) → o < 128 → upper (pack_upper o d.number r.bits) ≡ r
unfolding upper
upper_is o d r h = imm20_of r _ (same_low _ r.bits (upper-upper o d.number r.bits h d.in_range) r.in_range)

upper_forth : (op : UpperOp) (d : Reg) (imm : Imm20) → decoded (word_of (Upper op d imm)) ≡ Some (Upper op d imm)
upper_forth op d imm =
    let k : (upper_row op).opcode < 128 = (upper_is_row op).opcode in
    upper_packed _ d.number imm.bits k d.in_range ∙ upper_decodes op _ _ (word_of (Upper op d imm)) ∙ simp (rd_upper_is _ _ imm.bits d refl k, upper_is _ d imm k) refl

j_join : (w n u : ℕ) → w / 2 ^ 12 ≡ u → u ≡ n / 2 ^ 11 % 2 ^ 8 + n / 2 ^ 10 % 2 * 2 ^ 8 + n % 2 ^ 10 * 2 ^ 9 + n / 2 ^ 19 * 2 ^ 19 → n < 1048576 → (w / 2 ^ 21 % 2 ^ 10 + w / 2 ^ 20 % 2 * 2 ^ 10 + w / 2 ^ 12 % 2 ^ 8 * 2 ^ 11 + w / 2 ^ 31 * 2 ^ 19) % 1048576 ≡ n
j_join w n u e f h = omega arith

j_is : (o u : ℕ) (d : Reg) (r : Imm20) → u ≡ r.bits / 2 ^ 11 % 2 ^ 8 + r.bits / 2 ^ 10 % 2 * 2 ^ 8 + r.bits % 2 ^ 10 * 2 ^ 9 + r.bits / 2 ^ 19 * 2 ^ 19 → o < 128 → j_imm (pack_upper o d.number u) ≡ r
unfolding j_imm
j_is o u d r e h = imm20_of r _ (j_join (pack_upper o d.number u) r.bits u (upper-upper o d.number u h d.in_range) e r.in_range)

jump_forth : (d : Reg) (imm : Imm20) → decoded (word_of (Jump d imm)) ≡ Some (Jump d imm)
jump_forth d imm =
    let k : 0b1101111 < 128 = lit< tt in
    let n : ℕ = imm.bits in
    let u : ℕ = n / 2 ^ 11 % 2 ^ 8 + n / 2 ^ 10 % 2 * 2 ^ 8 + n % 2 ^ 10 * 2 ^ 9 + n / 2 ^ 19 * 2 ^ 19 in
    upper_packed 0b1101111 d.number u k d.in_range ∙ jump_decodes _ _ (word_of (Jump d imm)) ∙ simp (rd_upper_is 0b1101111 d.number u d refl k, j_is 0b1101111 u d imm refl k) refl

system_forth : (op : SystemOp) → decoded (word_of (System op)) ≡ Some (System op)
unfolding decoded decoded_at flow_at memory_at arithmetic_at branch_at load_at store_at upper_at immediate_at shift_at shift_word_at register_at
system_forth Ecall = refl
system_forth Ebreak = refl

pub forth : (i : Instr) → decoded (word_of i) ≡ Some i
forth (Upper op d imm) = upper_forth op d imm
forth (Jump d imm) = jump_forth d imm
forth (JumpTo d a imm) = jump_to_forth d a imm
forth (Branch op a b imm) = branch_forth op a b imm
forth (Load op d a imm) = load_forth op d a imm
forth (Store op a b imm) = store_forth op a b imm
forth (Immediate op d a imm) = immediate_forth op d a imm
forth (Shift op d a n) = shift_forth op d a n
forth (ShiftWord op d a n) = shift_word_forth op d a n
forth (Register op d a b) = register_forth op d a b
forth (Fence d a imm) = fence_forth d a imm
forth (System op) = system_forth op

-- no instruction has a word that is decoded as none
pub absent_of : (w : ℕ) (x : Option Instr) → x ≡ decoded w → IfNone x ((i : Instr) → word_of i ≢ w)
absent_of w (Some i) e = tt
absent_of w None e = λ (i : Instr) (h : word_of i ≡ w). let k : None ≡ Some i = e ∙ sym (ap decoded h) ∙ forth i in absurd (cc)

pub injective : (i j : Instr) → word_of i ≡ word_of j → i ≡ j
injective i j h = let e : Some i ≡ Some j = sym (forth i) ∙ ap decoded h ∙ forth j in cc

-- ---- a word has 32 bits
branch_range : (op : BranchOp) (a b : Reg) (imm : Imm12) → InRange (branch_row op).opcode (imm.bits / 2 ^ 10 % 2 + imm.bits % 2 ^ 4 * 2) (branch_row op).funct3 a.number b.number (imm.bits / 2 ^ 4 % 2 ^ 6 + imm.bits / 2 ^ 11 * 2 ^ 6)
branch_range op a b imm = let k : IsRow (branch_row op) = branch_is_row op in record { opcode = k.opcode; rd = b_low imm.bits; funct3 = k.funct3; rs1 = a.in_range; rs2 = b.in_range; funct7 = b_high imm.bits imm.in_range }

store_range : (op : StoreOp) (a b : Reg) (imm : Imm12) → InRange (store_row op).opcode (imm.bits % 2 ^ 5) (store_row op).funct3 a.number b.number (imm.bits / 2 ^ 5)
store_range op a b imm = let k : IsRow (store_row op) = store_is_row op in record { opcode = k.opcode; rd = low5 imm.bits; funct3 = k.funct3; rs1 = a.in_range; rs2 = b.in_range; funct7 = high7 imm.bits imm.in_range }

amount_range : (op : ShiftOp) (d a : Reg) (n : Amount6) → InRange (shift_row op).opcode d.number (shift_row op).funct3 a.number (n.bits % 2 ^ 5) (n.bits / 2 ^ 5 + (shift_row op).funct7 * 2)
amount_range op d a n = let k : IsRow (shift_row op) = shift_is_row op in record { opcode = k.opcode; rd = d.in_range; funct3 = k.funct3; rs1 = a.in_range; rs2 = low5 n.bits; funct7 = shift_range n.bits (shift_row op).funct7 n.in_range (shift_small op) }

jump_bits : (n : ℕ) → n < 1048576 → n / 2 ^ 11 % 2 ^ 8 + n / 2 ^ 10 % 2 * 2 ^ 8 + n % 2 ^ 10 * 2 ^ 9 + n / 2 ^ 19 * 2 ^ 19 < 1048576
jump_bits n h = omega arith

pub fits : (i : Instr) → word_of i < 2 ^ 32
fits (Upper op d imm) = pack_upper_fits _ _ _ (upper_is_row op).opcode d.in_range imm.in_range
fits (Jump d imm) = pack_upper_fits _ _ _ (lit< tt) d.in_range (jump_bits imm.bits imm.in_range)
fits (JumpTo d a imm) = pack_fits _ _ _ _ _ _ (i_range (row 0b1100111 0 0) jump_to_row d a imm)
fits (Branch op a b imm) = pack_fits _ _ _ _ _ _ (branch_range op a b imm)
fits (Load op d a imm) = pack_fits _ _ _ _ _ _ (i_range (load_row op) (load_is_row op) d a imm)
fits (Store op a b imm) = pack_fits _ _ _ _ _ _ (store_range op a b imm)
fits (Immediate op d a imm) = pack_fits _ _ _ _ _ _ (i_range (immediate_row op) (immediate_is_row op) d a imm)
fits (Shift op d a n) = pack_fits _ _ _ _ _ _ (amount_range op d a n)
fits (ShiftWord op d a n) = let k : IsRow (shift_word_row op) = shift_word_is_row op in pack_fits _ _ _ _ _ _ (record { opcode = k.opcode; rd = d.in_range; funct3 = k.funct3; rs1 = a.in_range; rs2 = n.in_range; funct7 = k.funct7 })
fits (Register op d a b) = let k : IsRow (register_row op) = register_is_row op in pack_fits _ _ _ _ _ _ (record { opcode = k.opcode; rd = d.in_range; funct3 = k.funct3; rs1 = a.in_range; rs2 = b.in_range; funct7 = k.funct7 })
fits (Fence d a imm) = pack_fits _ _ _ _ _ _ (i_range (row 0b0001111 0 0) fence_row d a imm)
fits (System Ecall) = lit< tt
fits (System Ebreak) = lit< tt
