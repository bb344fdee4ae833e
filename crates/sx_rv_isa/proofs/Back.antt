-- A word that reads as an instruction is its word.
use Rattle.std.proofs.Common.{◌≡◌, ℕ, ◌<◌, ◌%◌, ◌+◌, ◌*◌, ◌/◌, ◌^◌, arith, refl, sym, Option, Some, None, List, [], ◌∷◌, Bool, true, false}
use Rattle.std.specs.Prelude.{IfSome, option_map, if◌then◌else◌, ◌==◌, ◌&&◌}
use Rattle.sx_rv_isa.specs.declared.rows.Row.{Row}
use Rattle.sx_rv_isa.specs.Table.{row, same, op_with, upper_row, branch_row, load_row, store_row, immediate_row, shift_row, shift_word_row, register_row, upper_at, branch_at, load_at, store_at, immediate_at, shift_at, shift_word_at, register_at, all_upper, all_branch, all_load, all_store, all_immediate, all_shift, all_shift_word, all_register}
use Rattle.sx_rv_isa.specs.Words.{pack, pack_upper, i_word, j_word, word_of, rd, rs1, rs2, upper, i_imm, s_imm, b_imm, j_imm, amount_5, amount_6, decoded, decoded_at, flow_at, memory_at, arithmetic_at, system_of, ◌or_else◌}
use Rattle.sx_rv_isa.specs.declared.instructions.Instr.{Instr}
use Rattle.sx_rv_isa.specs.declared.instructions.Instr.TheVariants.{Upper, Jump, JumpTo, Branch, Load, Store, Immediate, Shift, ShiftWord, Register, Fence, System}
use Rattle.sx_rv_isa.specs.declared.instructions.SystemOp.TheVariants.{Ecall, Ebreak}
use borrow.Author.Tests.{eqb-true}

and_both : (p q : Bool) → (p && q) ≡ true → (p ≡ true) × (q ≡ true)
and_both true q h = (refl, h)
and_both false q h = absurd (cc)

-- ---- the formats

r_back : (w : ℕ) → pack (w % 2 ^ 7) (rd w).number (w / 2 ^ 12 % 2 ^ 3) (rs1 w).number (rs2 w).number (w / 2 ^ 25) ≡ w
unfolding pack rd rs1 rs2
r_back w = omega arith

i_back : (w : ℕ) → w < 2 ^ 32 → pack (w % 2 ^ 7) (rd w).number (w / 2 ^ 12 % 2 ^ 3) (rs1 w).number ((i_imm w).bits % 2 ^ 5) ((i_imm w).bits / 2 ^ 5) ≡ w
unfolding pack rd rs1 i_imm
i_back w h = omega arith

s_back : (w : ℕ) → w < 2 ^ 32 → pack (w % 2 ^ 7) ((s_imm w).bits % 2 ^ 5) (w / 2 ^ 12 % 2 ^ 3) (rs1 w).number (rs2 w).number ((s_imm w).bits / 2 ^ 5) ≡ w
unfolding pack rs1 rs2 s_imm
s_back w h = omega arith

b_back : (w : ℕ) → w < 2 ^ 32 → (let imm : ℕ = (b_imm w).bits in pack (w % 2 ^ 7) (imm / 2 ^ 10 % 2 + imm % 2 ^ 4 * 2) (w / 2 ^ 12 % 2 ^ 3) (rs1 w).number (rs2 w).number (imm / 2 ^ 4 % 2 ^ 6 + imm / 2 ^ 11 * 2 ^ 6)) ≡ w
unfolding pack rs1 rs2 b_imm
b_back w h = omega arith

j_back : (w : ℕ) → w < 2 ^ 32 → j_word (w % 2 ^ 7) (rd w).number (j_imm w).bits ≡ w
unfolding pack_upper rd j_imm
j_back w h = omega arith

u_back : (w : ℕ) → w < 2 ^ 32 → pack_upper (w % 2 ^ 7) (rd w).number (upper w).bits ≡ w
unfolding pack_upper rd upper
u_back w h = omega arith

shift_back : (w : ℕ) → w < 2 ^ 32 → pack (w % 2 ^ 7) (rd w).number (w / 2 ^ 12 % 2 ^ 3) (rs1 w).number ((amount_6 w).bits % 2 ^ 5) ((amount_6 w).bits / 2 ^ 5 + w / 2 ^ 25 / 2 * 2) ≡ w
unfolding pack rd rs1 amount_6
shift_back w h = omega arith

shift_word_back : (w : ℕ) → pack (w % 2 ^ 7) (rd w).number (w / 2 ^ 12 % 2 ^ 3) (rs1 w).number (amount_5 w).bits (w / 2 ^ 25) ≡ w
unfolding pack rd rs1 amount_5
shift_word_back w = omega arith

jump : (w : ℕ) → w < 2 ^ 32 → w % 2 ^ 7 ≡ 0b1101111 → j_word 0b1101111 (rd w).number (j_imm w).bits ≡ w
jump w h e = rw (← e) (j_back w h)

i_row : (w : ℕ) → w < 2 ^ 32 → (o f : ℕ) → ((w % 2 ^ 7 == o) && (w / 2 ^ 12 % 2 ^ 3 == f)) ≡ true → i_word (row o f 0) (rd w).number (rs1 w).number (i_imm w).bits ≡ w
i_row w h o f e =
    let x : ((w % 2 ^ 7 == o) ≡ true) × ((w / 2 ^ 12 % 2 ^ 3 == f) ≡ true) = and_both (w % 2 ^ 7 == o) (w / 2 ^ 12 % 2 ^ 3 == f) e in
    rw (← eqb-true (w % 2 ^ 7) o x.0, ← eqb-true (w / 2 ^ 12 % 2 ^ 3) f x.1) (i_back w h)

-- ---- what a search in the table finds

same_row : (o f g o' f' g' : ℕ) → o ≡ o' → f ≡ f' → g ≡ g' → row o f g ≡ row o' f' g'
same_row o f g o' f' g' p q r = rw (p, q, r) refl

same_is : (a b : Row) → same a b ≡ true → a ≡ b
same_is a b h =
    let x : (((a.opcode == b.opcode) && (a.funct3 == b.funct3)) ≡ true) × ((a.funct7 == b.funct7) ≡ true) = and_both ((a.opcode == b.opcode) && (a.funct3 == b.funct3)) (a.funct7 == b.funct7) h in
    let y : ((a.opcode == b.opcode) ≡ true) × ((a.funct3 == b.funct3) ≡ true) = and_both (a.opcode == b.opcode) (a.funct3 == b.funct3) x.0 in
    same_row a.opcode a.funct3 a.funct7 b.opcode b.funct3 b.funct7 (eqb-true a.opcode b.opcode y.0) (eqb-true a.funct3 b.funct3 y.1) (eqb-true a.funct7 b.funct7 x.1)

found : {Op : Type 0} (row_of : Op → Row) (r : Row) (op : Op) (b : Bool) (rest : Option Op) → same (row_of op) r ≡ b → IfSome rest (λ x. row_of x ≡ r) → IfSome (if b then Some op else rest) (λ x. row_of x ≡ r)
found row_of r op true rest e h = same_is (row_of op) r e
found row_of r op false rest e h = h

op_with_is : {Op : Type 0} (row_of : Op → Row) (r : Row) (ops : List Op) → IfSome (op_with row_of r ops) (λ op. row_of op ≡ r)
op_with_is row_of r [] = tt
op_with_is row_of r (op ∷ ops) = found row_of r op (same (row_of op) r) (op_with row_of r ops) refl (op_with_is row_of r ops)

-- ---- by cases on an option

or_some : {A : Type 0} (P : A → Type 0) (x y : Option A) → IfSome x P → IfSome y P → IfSome (x or_else y) P
or_some P (Some x) y h k = h
or_some P None y h k = k

map_some : {A B : Type 0} (Q : A → Type 0) (P : B → Type 0) (f : A → B) (x : Option A) → IfSome x Q → ((a : A) → Q a → P (f a)) → IfSome (option_map f x) P
map_some Q P f (Some x) h k = k x h
map_some Q P f None h k = h

if_some : {A : Type 0} (P : A → Type 0) (b : Bool) (x : A) → (b ≡ true → P x) → IfSome (if b then Some x else None) P
if_some P true x k = k refl
if_some P false x k = tt

if_or : {A : Type 0} (P : A → Type 0) (b : Bool) (x : A) (y : Option A) → (b ≡ true → P x) → IfSome y P → IfSome (if b then Some x else y) P
if_or P true x y k h = k refl
if_or P false x y k h = h

-- ---- each group

abbrev IsWordOf : ℕ → Instr → Type 0
IsWordOf w i = word_of i ≡ w

flow_is : (w : ℕ) → w < 2 ^ 32 → IfSome (flow_at (w % 2 ^ 7) (w / 2 ^ 12 % 2 ^ 3) w) (λ i. word_of i ≡ w)
unfolding flow_at branch_at
flow_is w h =
    or_some (IsWordOf w) _ _ (if_some (IsWordOf w) (w % 2 ^ 7 == 0b1101111) (Jump (rd w) (j_imm w)) (λ e. jump w h (eqb-true (w % 2 ^ 7) 0b1101111 e)))
    (or_some (IsWordOf w) _ _ (if_some (IsWordOf w) ((w % 2 ^ 7 == 0b1100111) && (w / 2 ^ 12 % 2 ^ 3 == 0)) (JumpTo (rd w) (rs1 w) (i_imm w)) (λ e. i_row w h 0b1100111 0 e))
    (map_some (λ op. branch_row op ≡ row (w % 2 ^ 7) (w / 2 ^ 12 % 2 ^ 3) 0) (IsWordOf w) (λ op. Branch op (rs1 w) (rs2 w) (b_imm w)) (branch_at (w % 2 ^ 7) (w / 2 ^ 12 % 2 ^ 3)) (op_with_is branch_row (row (w % 2 ^ 7) (w / 2 ^ 12 % 2 ^ 3) 0) all_branch) (λ op e. rw e (b_back w h))))

memory_is : (w : ℕ) → w < 2 ^ 32 → IfSome (memory_at (w % 2 ^ 7) (w / 2 ^ 12 % 2 ^ 3) w) (λ i. word_of i ≡ w)
unfolding memory_at load_at store_at
memory_is w h =
    or_some (IsWordOf w) _ _ (map_some (λ op. load_row op ≡ row (w % 2 ^ 7) (w / 2 ^ 12 % 2 ^ 3) 0) (IsWordOf w) (λ op. Load op (rd w) (rs1 w) (i_imm w)) (load_at (w % 2 ^ 7) (w / 2 ^ 12 % 2 ^ 3)) (op_with_is load_row (row (w % 2 ^ 7) (w / 2 ^ 12 % 2 ^ 3) 0) all_load) (λ op e. rw e (i_back w h)))
    (or_some (IsWordOf w) _ _ (map_some (λ op. store_row op ≡ row (w % 2 ^ 7) (w / 2 ^ 12 % 2 ^ 3) 0) (IsWordOf w) (λ op. Store op (rs1 w) (rs2 w) (s_imm w)) (store_at (w % 2 ^ 7) (w / 2 ^ 12 % 2 ^ 3)) (op_with_is store_row (row (w % 2 ^ 7) (w / 2 ^ 12 % 2 ^ 3) 0) all_store) (λ op e. rw e (s_back w h)))
    (if_some (IsWordOf w) ((w % 2 ^ 7 == 0b0001111) && (w / 2 ^ 12 % 2 ^ 3 == 0)) (Fence (rd w) (rs1 w) (i_imm w)) (λ e. i_row w h 0b0001111 0 e)))

arithmetic_is : (w : ℕ) → w < 2 ^ 32 → IfSome (arithmetic_at (w % 2 ^ 7) (w / 2 ^ 12 % 2 ^ 3) (w / 2 ^ 25) w) (λ i. word_of i ≡ w)
unfolding arithmetic_at upper_at immediate_at shift_at shift_word_at register_at
arithmetic_is w h =
    let o : ℕ = w % 2 ^ 7 in
    let f : ℕ = w / 2 ^ 12 % 2 ^ 3 in
    let g : ℕ = w / 2 ^ 25 in
    or_some (IsWordOf w) _ _ (map_some (λ op. upper_row op ≡ row o 0 0) (IsWordOf w) (λ op. Upper op (rd w) (upper w)) (upper_at o) (op_with_is upper_row (row o 0 0) all_upper) (λ op e. rw e (u_back w h)))
    (or_some (IsWordOf w) _ _ (map_some (λ op. immediate_row op ≡ row o f 0) (IsWordOf w) (λ op. Immediate op (rd w) (rs1 w) (i_imm w)) (immediate_at o f) (op_with_is immediate_row (row o f 0) all_immediate) (λ op e. rw e (i_back w h)))
    (or_some (IsWordOf w) _ _ (map_some (λ op. shift_row op ≡ row o f (g / 2)) (IsWordOf w) (λ op. Shift op (rd w) (rs1 w) (amount_6 w)) (shift_at o f (g / 2)) (op_with_is shift_row (row o f (g / 2)) all_shift) (λ op e. rw e (shift_back w h)))
    (or_some (IsWordOf w) _ _ (map_some (λ op. shift_word_row op ≡ row o f g) (IsWordOf w) (λ op. ShiftWord op (rd w) (rs1 w) (amount_5 w)) (shift_word_at o f g) (op_with_is shift_word_row (row o f g) all_shift_word) (λ op e. rw e (shift_word_back w)))
    (map_some (λ op. register_row op ≡ row o f g) (IsWordOf w) (λ op. Register op (rd w) (rs1 w) (rs2 w)) (register_at o f g) (op_with_is register_row (row o f g) all_register) (λ op e. rw e (r_back w))))))

system_is : (w : ℕ) → IfSome (system_of w) (λ i. word_of i ≡ w)
system_is w =
    if_or (IsWordOf w) (w == 0x00000073) (System Ecall) _ (λ e. sym (eqb-true w 0x00000073 e))
    (if_some (IsWordOf w) (w == 0x00100073) (System Ebreak) (λ e. sym (eqb-true w 0x00100073 e)))

pub decoded_is : (w : ℕ) → w < 2 ^ 32 → IfSome (decoded w) (λ i. word_of i ≡ w)
unfolding decoded decoded_at
decoded_is w h = or_some (IsWordOf w) _ _ (flow_is w h) (or_some (IsWordOf w) _ _ (memory_is w h) (or_some (IsWordOf w) _ _ (arithmetic_is w h) (system_is w)))
