-- What the machine does at an item.
use Rattle.std.proofs.Common.{◌≡◌, ℕ, ◌+◌, ◌*◌, ◌%◌, ◌<◌, ◌≤◌, List, length, Bool, true, false, Option, Some, None, refl, sym, ap, ◌∙◌, subst, arith}
use Rattle.std.specs.Prelude.{◌≢◌, IsSomeAnd, if◌then◌else◌}
use Rattle.std.proofs.lemmas.Bool.{cases_eq, eq-eqb, ne_eqb}
use Rattle.std.proofs.Common.{⊎_elim}
use Rattle.sx_rv_isa.specs.declared.fields.Reg.{Reg}
use Rattle.sx_rv_isa.specs.declared.instructions.BranchOp.{BranchOp}
use Rattle.sx_rv_isa.specs.declared.instructions.Instr.{Instr}
use Rattle.sx_rv_isa.specs.Effects.{is_taken}
use Rattle.sx_rv_asm.specs.declared.items.Item.{Item}
use Rattle.sx_rv_asm.specs.declared.items.Item.TheVariants as item
use Rattle.sx_rv_asm.specs.Items.{form_size}
use Rattle.sx_rv_asm.specs.Forms.{base_of, branch_form, jump_form, address_form}
use Rattle.sx_rv_asm.specs.Fetching.{Fetches}
use Rattle.sx_rv_asm.specs.Walking.{Hart, hart, through, Arrives, InCode}
use Rattle.sx_rv_asm.specs.Walking as walking
use Rattle.sx_rv_asm.proofs.Walks.{branch, jump, address}
use Rattle.sx_rv_machine.specs.State.{State, register}
use Rattle.sx_rv_link.specs.Following.{HasCode, Shows, IsRunning, Follows, Goes, steps}
use Rattle.sx_rv_link.specs.Items.{IsAt, IsCarriedOut, BranchGoes, JumpGoes, AddressGoes}
use Rattle.sx_rv_link.proofs.Followed.{followed, carried_at}

-- the registers of a machine, as a hart has them
abbrev shown : State → ℕ → ℕ
shown s n = register s n

read : (s : State) → register s 0 ≡ 0 → (pc n : ℕ) → walking.register (hart pc (shown s)) n ≡ register s n
read s z pc n = ⊎_elim
    (λ (e : n ≡ 0). ap (λ b. if b then 0 else register s n) (eq-eqb n 0 e) ∙ sym (ap (register s) e ∙ z))
    (λ (ne : n ≢ 0). ap (λ b. if b then 0 else register s n) (ne_eqb n 0 ne))
    (cases_eq n 0)

found : {A : Type 0} (o : Option A) (P : A → Type 0) → IsSomeAnd o P → (x : A) × (o ≡ Some x) × P x
found (Some x) P h = (x, refl, h)
found None P h = absurd h

-- a walk that arrives is one of the machine
goes : (s : State) (code : List ℕ) (base at : ℕ) (is : List Instr) (pc n value free most : ℕ) → (base + at) % 4 ≡ 0 → at + 4 * length is ≤ length code → length is ≤ most → n < 32 → Fetches code at is → HasCode s base code → IsRunning s → s.pc ≡ base + at
    → IsSomeAnd (through (base + at) is (hart (base + at) (shown s))) (Arrives (hart (base + at) (shown s)) pc n value free) → Goes s pc n value free most
goes s code base at is pc n value free most a l few small f c r p w =
    let q = found (through (base + at) is (hart (base + at) (shown s))) (Arrives (hart (base + at) (shown s)) pc n value free) w in
    let after : Hart = q.0 in
    let arrived : Arrives (hart (base + at) (shown s)) pc n value free after = q.2 in
    let start : Shows s (hart (base + at) (shown s)) = record { pc = p; registers = λ m k. sym (read s r.zero_is (base + at) m); count = r.count; running = r.running } in
    let z : Follows s after (length is) = followed code base at is s (hart (base + at) (shown s)) after a l f c start q.1 in
    let end : Shows (steps z.count s) after = z.shows in
    record {
      count = z.count;
      few = let x = z.few in omega arith;
      quiet = z.quiet;
      arrives = end.pc ∙ arrived.arrives;
      link = λ ne. end.registers n small ∙ arrived.link ne;
      others = λ m k ne ng. end.registers m k ∙ arrived.others m ne ng ∙ read s r.zero_is (base + at) m;
      registers = record { count = end.count; zero_is = end.registers 0 (omega arith); running = end.running };
      memory = z.memory;
    }

in_code : (code : List ℕ) (place : ℕ → ℕ) (s : State) (base at : ℕ) (near : Bool) (i : Item) (to : ℕ) → IsAt s code place base at near i → 0 < form_size near i → InCode base at (place to)
in_code code place s base at near i to h some = record {
  base_aligned = h.base_aligned;
  at_aligned = h.lies.aligned;
  target_aligned = h.places.aligned to;
  at_small = let x = h.lies.inside in let y = h.short in omega arith;
  target_small = let x = h.places.within to in let y = h.short in omega arith;
  base_small = h.base_small;
}

even : (base at : ℕ) → base % 4 ≡ 0 → at % 4 ≡ 0 → (base + at) % 4 ≡ 0
even base at p q = omega arith

pub branch_goes : (code : List ℕ) (place : ℕ → ℕ) (s : State) (base at : ℕ) (near : Bool) (cond : BranchOp) (rs1 rs2 : Reg) (to : ℕ) → IsAt s code place base at near (item.Branch cond rs1 rs2 to) → BranchGoes s place base at near cond rs1 rs2 to
branch_goes code place s base at true cond rs1 rs2 to h =
    let c = in_code code place s base at true (item.Branch cond rs1 rs2 to) to h (omega arith) in
    let z = h.running.zero_is in
    let w = branch true cond rs1 rs2 base at (place to) (shown s) c h.lies.fits in
    let e : is_taken cond (walking.register (hart (base + at) (shown s)) rs1.number) (walking.register (hart (base + at) (shown s)) rs2.number) ≡ is_taken cond (register s rs1.number) (register s rs2.number) =
    ap (λ x. is_taken cond x (walking.register (hart (base + at) (shown s)) rs2.number)) (read s z (base + at) rs1.number) ∙ ap (is_taken cond (register s rs1.number)) (read s z (base + at) rs2.number) in
    subst (λ (b : Bool). Goes s (if b then base + place to else base + at + 4) 0 0 31 3) e
    (goes s code base at (branch_form true cond rs1 rs2 at (place to)) _ 0 0 31 3 (even base at h.base_aligned h.lies.aligned) h.lies.inside (omega arith) (omega arith) h.lies.fetches h.has_code h.running h.pc w)
branch_goes code place s base at false cond rs1 rs2 to h =
    let c = in_code code place s base at false (item.Branch cond rs1 rs2 to) to h (omega arith) in
    let z = h.running.zero_is in
    let w = branch false cond rs1 rs2 base at (place to) (shown s) c h.lies.fits in
    let e : is_taken cond (walking.register (hart (base + at) (shown s)) rs1.number) (walking.register (hart (base + at) (shown s)) rs2.number) ≡ is_taken cond (register s rs1.number) (register s rs2.number) =
    ap (λ x. is_taken cond x (walking.register (hart (base + at) (shown s)) rs2.number)) (read s z (base + at) rs1.number) ∙ ap (is_taken cond (register s rs1.number)) (read s z (base + at) rs2.number) in
    subst (λ (b : Bool). Goes s (if b then base + place to else base + at + 12) 0 0 31 3) e
    (goes s code base at (branch_form false cond rs1 rs2 at (place to)) _ 0 0 31 3 (even base at h.base_aligned h.lies.aligned) h.lies.inside (omega arith) (omega arith) h.lies.fetches h.has_code h.running h.pc w)

pub jump_goes : (code : List ℕ) (place : ℕ → ℕ) (s : State) (base at : ℕ) (near : Bool) (rd : Reg) (to : ℕ) → IsAt s code place base at near (item.Jump rd to) → JumpGoes s place base at near rd to
jump_goes code place s base at true rd to h =
    let c = in_code code place s base at true (item.Jump rd to) to h (omega arith) in
    let w = jump true rd base at (place to) (shown s) c h.lies.fits in
    goes s code base at (jump_form true rd at (place to)) (base + place to) rd.number (base + at + 4) (base_of rd).number 2 (even base at h.base_aligned h.lies.aligned) h.lies.inside (omega arith) rd.in_range h.lies.fetches h.has_code h.running h.pc w
jump_goes code place s base at false rd to h =
    let c = in_code code place s base at false (item.Jump rd to) to h (omega arith) in
    let w = jump false rd base at (place to) (shown s) c h.lies.fits in
    goes s code base at (jump_form false rd at (place to)) (base + place to) rd.number (base + at + 8) (base_of rd).number 2 (even base at h.base_aligned h.lies.aligned) h.lies.inside (omega arith) rd.in_range h.lies.fetches h.has_code h.running h.pc w

pub address_goes : (code : List ℕ) (place : ℕ → ℕ) (s : State) (base at : ℕ) (near : Bool) (rd : Reg) (to : ℕ) → IsAt s code place base at near (item.Address rd to) → AddressGoes s place base at rd to
address_goes code place s base at near rd to h =
    let c = in_code code place s base at near (item.Address rd to) to h (omega arith) in
    let w = address rd base at (place to) (shown s) c in
    goes s code base at (address_form rd at (place to)) (base + at + 8) rd.number (base + place to) rd.number 2 (even base at h.base_aligned h.lies.aligned) h.lies.inside (omega arith) rd.in_range h.lies.fetches h.has_code h.running h.pc w

pub plain_goes : (code : List ℕ) (place : ℕ → ℕ) (s : State) (base at : ℕ) (near : Bool) (i : Instr) → IsAt s code place base at near (item.Plain i) → IsCarriedOut s i
plain_goes code place s base at near i h =
    let f = h.lies.fetches in
    carried_at s code base at i h.has_code h.lies.inside (even base at h.base_aligned h.lies.aligned) f.0 h.running.running h.pc
