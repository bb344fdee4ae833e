-- The forms of branches, jumps and addresses, instruction by instruction.
use Rattle.std.proofs.Common.{◌≡◌, ℕ, ◌+◌, ◌*◌, ◌/◌, ◌%◌, ◌^◌, ◌<◌, ◌≤◌, List, [], ◌∷◌, Bool, true, false, Option, Some, None, refl, sym, ap, ◌∙◌, subst, ⊎_elim, arith}
use Rattle.std.specs.Prelude.{◌==◌, ◌≢◌, not, IsSomeAnd, option_and_then, if◌then◌else◌}
use Rattle.std.specs.Bool.{OnTrue}
use Rattle.std.proofs.lemmas.Bool.{eq-eqb, ne_eqb, cases_eq}
use Rattle.sx_rv_isa.specs.declared.effect.Effect.TheVariants as effects
use Rattle.sx_rv_isa.specs.declared.fields.Reg.{Reg}
use Rattle.sx_rv_isa.specs.declared.instructions.BranchOp.{BranchOp}
use Rattle.sx_rv_isa.specs.declared.instructions.BranchOp.TheVariants.{Beq, Bne, Blt, Bge, Bltu, Bgeu}
use Rattle.sx_rv_isa.specs.declared.instructions.UpperOp.TheVariants.{Auipc}
use Rattle.sx_rv_isa.specs.declared.instructions.ImmediateOp.TheVariants.{Addi}
use Rattle.sx_rv_isa.specs.declared.instructions.Instr.{Instr}
use Rattle.sx_rv_isa.specs.declared.instructions.Instr.TheVariants as instr
use Rattle.sx_rv_isa.specs.Words.{reg, imm12, imm20}
use Rattle.sx_rv_isa.specs.Effects.{extend, add, register_value, is_taken}
use Rattle.sx_rv_asm.specs.Forms.{distance, upper_part, inverse, base_of, far_jump}
use Rattle.sx_rv_asm.specs.Walking.{Hart, hart, register, with_register, took, executed, through, Arrives, InCode}
use Rattle.sx_rv_asm.specs.Arriving.{BranchArrives, JumpArrives, AddressArrives}
use Rattle.sx_rv_asm.proofs.Numbers.{branch_sum, jump_sum, far_sum}

one : (i : Instr) (is : List Instr) (pc : ℕ) (rs : ℕ → ℕ) (h : Hart) → executed i (hart pc rs) ≡ Some h → through pc (i ∷ is) (hart pc rs) ≡ through (pc + 4) is h
one i is pc rs h e = ap (λ b. if b then option_and_then (through (pc + 4) is) (executed i (hart pc rs)) else through (pc + 4) is (hart pc rs)) (eq-eqb pc pc refl) ∙ ap (option_and_then (through (pc + 4) is)) e

skip : (i : Instr) (is : List Instr) (at pc : ℕ) (rs : ℕ → ℕ) → pc ≢ at → through at (i ∷ is) (hart pc rs) ≡ through (at + 4) is (hart pc rs)
skip i is at pc rs ne = ap (λ b. if b then option_and_then (through (at + 4) is) (executed i (hart pc rs)) else through (at + 4) is (hart pc rs)) (ne_eqb pc at ne)

-- a state at an address that is a multiple of 4 may be gone to
goes : (h : Hart) (t : ℕ) → t % 4 ≡ 0 → (if t % 4 == 0 then Some h else None) ≡ Some h
goes h t e = ap (λ b. if b then Some h else None) (eq-eqb (t % 4) 0 e)

next_pc : (pc : ℕ) → pc + 4 < 2 ^ 64 → (pc + 4) % 2 ^ 64 ≡ pc + 4
next_pc pc h = omega arith

-- ---- registers
same : (rs : ℕ → ℕ) (n v : ℕ) → with_register rs n v n ≡ v
same rs n v = ap (λ b. if b then v else rs n) (eq-eqb n n refl)

other : (rs : ℕ → ℕ) (n v m : ℕ) → m ≢ n → with_register rs n v m ≡ rs m
other rs n v m ne = ap (λ b. if b then v else rs m) (ne_eqb m n ne)

read_same : (rs : ℕ → ℕ) (pc n v : ℕ) → n ≢ 0 → register (hart pc (with_register rs n v)) n ≡ v
read_same rs pc n v ne = ap (λ b. if b then 0 else with_register rs n v n) (ne_eqb n 0 ne) ∙ same rs n v

read_other : (rs qs : ℕ → ℕ) (pc q m : ℕ) → rs m ≡ qs m → register (hart pc rs) m ≡ register (hart q qs) m
read_other rs qs pc q m e = ap (λ x. if m == 0 then 0 else x) e

arriving : (outcome : Option Hart) (P : Hart → Type 0) (h : Hart) → outcome ≡ Some h → P h → IsSomeAnd outcome P
arriving outcome P h e p = subst (λ (o : Option Hart). IsSomeAnd o P) (sym e) p

-- a jump's answer, by its target
abbrev jumped : (ℕ → ℕ) → ℕ → ℕ → ℕ → Option Hart
jumped rs rd link t = if t % 4 == 0 then Some (hart t (with_register rs rd link)) else None

-- ---- a far jump
module _ (rd x : Reg) (some : x.number ≢ 0) (base at target : ℕ) (small : at < 2 ^ 30 + 4) (target_small : target < 2 ^ 30) (base_small : base + 2 ^ 31 ≤ 2 ^ 64) (base_aligned : base % 4 ≡ 0) (target_aligned : target % 4 ≡ 0) (rs : ℕ → ℕ) where
  upper_of : ℕ
  upper_of = add (base + at) (extend 32 (upper_part (distance at target) % 1048576 * 4096))

  pub far_registers : ℕ → ℕ
  far_registers = with_register (with_register rs x.number upper_of) rd.number (base + at + 8)

  link_is : (pc : ℕ) → pc + 8 < 2 ^ 64 → add (pc + 4) 4 ≡ pc + 8
  unfolding register_value
  link_is pc h = omega arith

  pub far_walk : through (base + at) (far_jump rd x (distance at target)) (hart (base + at) rs) ≡ Some (hart (base + target) far_registers)
  unfolding far_registers upper_of
  far_walk =
      let d : ℕ = distance at target in
      let pc : ℕ = base + at in
      let i : Instr = instr.Upper Auipc x (imm20 (upper_part d)) in
      let j : Instr = instr.JumpTo rd x (imm12 d) in
      let v : ℕ = add pc (extend 32 (upper_part d % 1048576 * 4096)) in
      let qs : ℕ → ℕ = with_register rs x.number v in
      let n : pc + 8 < 2 ^ 64 = omega arith in
      let first : executed i (hart pc rs) ≡ Some (hart (pc + 4) qs) = ap (λ p. Some (hart p qs)) (next_pc pc (omega arith)) in
      let aligned : (base + target) % 4 ≡ 0 = omega arith in
      let even : (base + target) / 2 * 2 ≡ base + target = omega arith in
      let to : ℕ → Hart = λ l. hart (base + target) (with_register qs rd.number l) in
      let second : executed j (hart (pc + 4) qs) ≡ Some (to (pc + 8)) =
      ap (λ a. jumped qs rd.number (add (pc + 4) 4) (add a (extend 12 (d % 4096)) / 2 * 2)) (read_same rs (pc + 4) x.number v some)
      ∙ ap (λ t. jumped qs rd.number (add (pc + 4) 4) (t / 2 * 2)) (far_sum base at target small target_small base_small)
      ∙ ap (jumped qs rd.number (add (pc + 4) 4)) even
      ∙ goes (to (add (pc + 4) 4)) (base + target) aligned
      ∙ ap (λ l. Some (to l)) (link_is pc n) in
      one i (j ∷ []) pc rs (hart (pc + 4) qs) first ∙ one j [] (pc + 4) qs (hart (base + target) (with_register qs rd.number (pc + 8))) second

  pub far_keeps : (m : ℕ) → m ≢ rd.number → m ≢ x.number → far_registers m ≡ rs m
  unfolding far_registers
  far_keeps m ne free = other (with_register rs x.number upper_of) rd.number (base + at + 8) m ne ∙ other rs x.number upper_of m free

  pub far_link : rd.number ≢ 0 → register (hart (base + target) far_registers) rd.number ≡ base + at + 8
  unfolding far_registers
  far_link ne = read_same (with_register rs x.number upper_of) (base + target) rd.number (base + at + 8) ne

-- ---- branches
took_branch : (taken : Bool) (t pc : ℕ) (rs : ℕ → ℕ) → t % 4 ≡ 0 → pc + 4 < 2 ^ 64 → took 0 (if taken then effects.Branch t else effects.Next) (hart pc rs) ≡ Some (hart (if taken then t else pc + 4) rs)
took_branch true t pc rs e h = goes (hart t rs) t e
took_branch false t pc rs e h = ap (λ p. Some (hart p rs)) (next_pc pc h)

double_not : (b : Bool) → not (not b) ≡ b
double_not true = refl
double_not false = refl

inverse_taken : (cond : BranchOp) (a b : ℕ) → is_taken (inverse cond) a b ≡ not (is_taken cond a b)
inverse_taken Beq a b = refl
inverse_taken Bne a b = sym (double_not (a == b))
inverse_taken Blt a b = refl
inverse_taken Bge a b = sym (double_not _)
inverse_taken Bltu a b = refl
inverse_taken Bgeu a b = sym (double_not _)

over : (pc : ℕ) → pc + 12 < 2 ^ 64 → add pc (extend 13 12) ≡ pc + 12
unfolding extend register_value
over pc h = omega arith

near_branch : (cond : BranchOp) (rs1 rs2 : Reg) (base at target : ℕ) (rs : ℕ → ℕ) → InCode base at target → target ≤ at + 4094 → at ≤ target + 4096 → BranchArrives true cond rs1 rs2 base at target rs
near_branch cond rs1 rs2 base at target rs c u w =
    let d : ℕ = distance at target in
    let p : ℕ = base + at in
    let s : Hart = hart p rs in
    let b : Bool = is_taken cond (register s rs1.number) (register s rs2.number) in
    let i : Instr = instr.Branch cond rs1 rs2 (imm12 (d / 2)) in
    let x = c.at_small in
    let y = c.base_small in
    let ba = c.base_aligned in
    let ta = c.target_aligned in
    let fits : p + 4 < 2 ^ 64 = omega arith in
    let aligned : (base + target) % 4 ≡ 0 = omega arith in
    let after : Hart = hart (if b then base + target else p + 4) rs in
    let first : executed i s ≡ Some after =
    ap (λ t. took 0 (if b then effects.Branch t else effects.Next) s) (branch_sum base at target c u w) ∙ took_branch b (base + target) p rs aligned fits in
    let e : through p (i ∷ []) s ≡ Some after = one i [] p rs after first in
    arriving (through p (i ∷ []) s) (Arrives s (if b then base + target else p + 4) 0 0 31) after e
    (record { arrives = refl; link = λ n. absurd (n refl); others = λ m ne free. refl })

scratch_some : (reg 31).number ≢ 0
scratch_some e = absurd (omega arith)

-- the two ways through the far form of a branch: over the far jump, and by it
far_ways : (taken : Bool) (i : Instr) (base at target : ℕ) (rs : ℕ → ℕ) → InCode base at target
    → executed i (hart (base + at) rs) ≡ Some (hart (if not taken then base + at + 12 else base + at + 4) rs)
    → IsSomeAnd (through (base + at) (i ∷ far_jump (reg 0) (reg 31) (distance (at + 4) target)) (hart (base + at) rs)) (Arrives (hart (base + at) rs) (if taken then base + target else base + at + 12) 0 0 31)
far_ways false i base at target rs c e =
    let p : ℕ = base + at in
    let d : ℕ = distance (at + 4) target in
    let j : Instr = instr.Upper Auipc (reg 31) (imm20 (upper_part d)) in
    let k : Instr = instr.JumpTo (reg 0) (reg 31) (imm12 d) in
    let walk : through p (i ∷ j ∷ k ∷ []) (hart p rs) ≡ Some (hart (p + 12) rs) =
    one i (j ∷ k ∷ []) p rs (hart (p + 12) rs) e
    ∙ skip j (k ∷ []) (p + 4) (p + 12) rs (λ x. absurd (omega arith))
    ∙ skip k [] (p + 4 + 4) (p + 12) rs (λ x. absurd (omega arith)) in
    arriving _ (Arrives (hart p rs) (p + 12) 0 0 31) (hart (p + 12) rs) walk
    (record { arrives = refl; link = λ n. absurd (n refl); others = λ m ne free. refl })
far_ways true i base at target rs c e =
    let p : ℕ = base + at in
    let ats = c.at_small in
    let bs = c.base_small in
    let ba = c.base_aligned in
    let ta = c.target_aligned in
    let small : at + 4 < 2 ^ 30 + 4 = omega arith in
    let same_pc : base + (at + 4) ≡ p + 4 = omega arith in
    let jump : List Instr = far_jump (reg 0) (reg 31) (distance (at + 4) target) in
    let changed : ℕ → ℕ = far_registers (reg 0) (reg 31) scratch_some base (at + 4) target small c.target_small bs ba ta rs in
    let after : Hart = hart (base + target) changed in
    let far : through (base + (at + 4)) jump (hart (base + (at + 4)) rs) ≡ Some after = far_walk (reg 0) (reg 31) scratch_some base (at + 4) target small c.target_small bs ba ta rs in
    let walk : through p (i ∷ jump) (hart p rs) ≡ Some after =
    one i jump p rs (hart (p + 4) rs) e ∙ subst (λ (q : ℕ). through q jump (hart q rs) ≡ Some after) same_pc far in
    arriving _ (Arrives (hart p rs) (base + target) 0 0 31) after walk
    (record {
      arrives = refl;
      link = λ n. absurd (n refl);
      others = λ m ne free. read_other changed rs (base + target) p m (far_keeps (reg 0) (reg 31) scratch_some base (at + 4) target small c.target_small bs ba ta rs m ne free);
    })

far_branch : (cond : BranchOp) (rs1 rs2 : Reg) (base at target : ℕ) (rs : ℕ → ℕ) → InCode base at target → BranchArrives false cond rs1 rs2 base at target rs
far_branch cond rs1 rs2 base at target rs c =
    let p : ℕ = base + at in
    let s : Hart = hart p rs in
    let a : ℕ = register s rs1.number in
    let b : ℕ = register s rs2.number in
    let i : Instr = instr.Branch (inverse cond) rs1 rs2 (imm12 6) in
    let x = c.at_small in
    let y = c.base_small in
    let ba = c.base_aligned in
    let aa = c.at_aligned in
    let aligned : (p + 12) % 4 ≡ 0 = omega arith in
    let fits : p + 12 < 2 ^ 64 = omega arith in
    let first : executed i s ≡ Some (hart (if not (is_taken cond a b) then p + 12 else p + 4) rs) =
    ap (λ t. took 0 (if is_taken (inverse cond) a b then effects.Branch t else effects.Next) s) (over p fits)
    ∙ took_branch (is_taken (inverse cond) a b) (p + 12) p rs aligned (omega arith)
    ∙ ap (λ z. Some (hart (if z then p + 12 else p + 4) rs)) (inverse_taken cond a b) in
    far_ways (is_taken cond a b) i base at target rs c first

pub branch : (near : Bool) (cond : BranchOp) (rs1 rs2 : Reg) (base at target : ℕ) (rs : ℕ → ℕ) → InCode base at target → OnTrue near ((target ≤ at + 4094) × (at ≤ target + 4096)) → BranchArrives near cond rs1 rs2 base at target rs
branch true cond rs1 rs2 base at target rs c r = near_branch cond rs1 rs2 base at target rs c r.0 r.1
branch false cond rs1 rs2 base at target rs c r = far_branch cond rs1 rs2 base at target rs c

-- ---- jumps
link_4 : (q : ℕ) → q + 4 < 2 ^ 64 → add q 4 ≡ q + 4
unfolding register_value
link_4 q h = omega arith

near_jump : (rd : Reg) (base at target : ℕ) (rs : ℕ → ℕ) → InCode base at target → target ≤ at + 1048574 → at ≤ target + 1048576 → JumpArrives true rd base at target rs
near_jump rd base at target rs c u w =
    let d : ℕ = distance at target in
    let p : ℕ = base + at in
    let x = c.at_small in
    let y = c.base_small in
    let ba = c.base_aligned in
    let ta = c.target_aligned in
    let aligned : (base + target) % 4 ≡ 0 = omega arith in
    let fits : p + 4 < 2 ^ 64 = omega arith in
    let i : Instr = instr.Jump rd (imm20 (d / 2)) in
    let after : Hart = hart (base + target) (with_register rs rd.number (p + 4)) in
    let e : executed i (hart p rs) ≡ Some after =
    ap (jumped rs rd.number (add p 4)) (jump_sum base at target c u w)
    ∙ goes (hart (base + target) (with_register rs rd.number (add p 4))) (base + target) aligned
    ∙ ap (λ l. Some (hart (base + target) (with_register rs rd.number l))) (link_4 p fits) in
    arriving (through p (i ∷ []) (hart p rs)) (Arrives (hart p rs) (base + target) rd.number (p + 4) (base_of rd).number) after (one i [] p rs after e)
    (record {
      arrives = refl;
      link = read_same rs (base + target) rd.number (p + 4);
      others = λ m ne free. read_other (with_register rs rd.number (p + 4)) rs (base + target) p m (other rs rd.number (p + 4) m ne);
    })

base_some : (rd : Reg) → (base_of rd).number ≢ 0
base_some rd = ⊎_elim
    (λ (e : rd.number ≡ 0). subst (λ (b : Bool). (if b then reg 31 else rd).number ≢ 0) (sym (eq-eqb rd.number 0 e)) scratch_some)
    (λ (ne : rd.number ≢ 0). subst (λ (b : Bool). (if b then reg 31 else rd).number ≢ 0) (sym (ne_eqb rd.number 0 ne)) ne)
    (cases_eq rd.number 0)

far_jump_arrives : (rd : Reg) (base at target : ℕ) (rs : ℕ → ℕ) → InCode base at target → JumpArrives false rd base at target rs
far_jump_arrives rd base at target rs c =
    let p : ℕ = base + at in
    let x : Reg = base_of rd in
    let ats = c.at_small in
    let bs = c.base_small in
    let ba = c.base_aligned in
    let ta = c.target_aligned in
    let small : at < 2 ^ 30 + 4 = omega arith in
    let changed : ℕ → ℕ = far_registers rd x (base_some rd) base at target small c.target_small bs ba ta rs in
    let after : Hart = hart (base + target) changed in
    arriving (through p (far_jump rd x (distance at target)) (hart p rs)) (Arrives (hart p rs) (base + target) rd.number (p + 8) x.number) after
    (far_walk rd x (base_some rd) base at target small c.target_small bs ba ta rs)
    (record {
      arrives = refl;
      link = far_link rd x (base_some rd) base at target small c.target_small bs ba ta rs;
      others = λ m ne free. read_other changed rs (base + target) p m (far_keeps rd x (base_some rd) base at target small c.target_small bs ba ta rs m ne free);
    })

pub jump : (near : Bool) (rd : Reg) (base at target : ℕ) (rs : ℕ → ℕ) → InCode base at target → OnTrue near ((target ≤ at + 1048574) × (at ≤ target + 1048576)) → JumpArrives near rd base at target rs
jump true rd base at target rs c r = near_jump rd base at target rs c r.0 r.1
jump false rd base at target rs c r = far_jump_arrives rd base at target rs c

-- ---- addresses
address_zero : (base at target : ℕ) (rs : ℕ → ℕ) (rd : Reg) (v w : ℕ) (m : ℕ) → m ≢ rd.number → with_register (with_register rs rd.number v) rd.number w m ≡ rs m
address_zero base at target rs rd v w m ne = other (with_register rs rd.number v) rd.number w m ne ∙ other rs rd.number v m ne

pub address : (rd : Reg) (base at target : ℕ) (rs : ℕ → ℕ) → InCode base at target → AddressArrives rd base at target rs
address rd base at target rs c =
    let d : ℕ = distance at target in
    let p : ℕ = base + at in
    let ats = c.at_small in
    let bs = c.base_small in
    let small : at < 2 ^ 30 + 4 = omega arith in
    let n : p + 8 < 2 ^ 64 = omega arith in
    let i : Instr = instr.Upper Auipc rd (imm20 (upper_part d)) in
    let j : Instr = instr.Immediate Addi rd rd (imm12 d) in
    let v : ℕ = add p (extend 32 (upper_part d % 1048576 * 4096)) in
    let qs : ℕ → ℕ = with_register rs rd.number v in
    let w : ℕ = add (register (hart (p + 4) qs) rd.number) (extend 12 (d % 4096)) in
    let after : Hart = hart (p + 8) (with_register qs rd.number w) in
    let first : executed i (hart p rs) ≡ Some (hart (p + 4) qs) = ap (λ q. Some (hart q qs)) (next_pc p (omega arith)) in
    let eight : (p + 4 + 4) % 2 ^ 64 ≡ p + 8 = omega arith in
    let second : executed j (hart (p + 4) qs) ≡ Some after = ap (λ q. Some (hart q (with_register qs rd.number w))) eight in
    arriving (through p (i ∷ j ∷ []) (hart p rs)) (Arrives (hart p rs) (p + 8) rd.number (base + target) rd.number) after
    (one i (j ∷ []) p rs (hart (p + 4) qs) first ∙ one j [] (p + 4) qs after second)
    (record {
      arrives = refl;
      link = λ some.
          read_same qs (p + 8) rd.number w some
          ∙ ap (λ a. add a (extend 12 (d % 4096))) (read_same rs (p + 4) rd.number v some)
          ∙ far_sum base at target small c.target_small bs;
      others = λ m ne free. read_other (with_register qs rd.number w) rs (p + 8) p m (address_zero base at target rs rd v w m ne);
    })
