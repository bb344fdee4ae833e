-- A walk through instructions is one of the machine.
use Rattle.std.proofs.Common.{◌≡◌, ℕ, zero, suc, ◌+◌, ◌*◌, ◌%◌, ◌^◌, ◌<◌, ◌≤◌, List, [], ◌∷◌, length, get_or, set, Bool, true, false, Option, Some, None, refl, sym, ap, ◌∙◌, subst, ⊎_elim, ◌⊎◌, inl, inr, arith}
use Rattle.std.specs.Prelude.{◌==◌, ◌≢◌, option_and_then, if◌then◌else◌}
use Rattle.std.specs.Int.{w32, from_le_bytes}
use Rattle.std.proofs.lemmas.Bool.{eq-eqb, ne_eqb, cases_eq}
use Rattle.std.proofs.lemmas.List.{get_or-set_same, get_or-set_other, length-set}
use Rattle.sx_rv_isa.specs.declared.effect.Effect.{Effect}
use Rattle.sx_rv_isa.specs.declared.effect.Effect.TheVariants as effects
use Rattle.sx_rv_isa.specs.declared.faults.MachineKind.TheVariants as kind
use Rattle.sx_rv_isa.specs.declared.instructions.Instr.{Instr}
use Rattle.sx_rv_isa.specs.declared.instructions.Instr.TheVariants.{Upper, Jump, JumpTo, Branch, Load, Store, Immediate, Shift, ShiftWord, Register, Fence, System}
use Rattle.sx_rv_isa.specs.Words.{decoded}
use Rattle.sx_rv_isa.specs.Effects.{effect}
use Rattle.sx_rv_isa.specs.Registers.{destination, first_source, second_source}
use Rattle.sx_rv_asm.specs.Fetching.{part, Fetches}
use Rattle.sx_rv_asm.specs.Walking.{Hart, hart, took, executed, through}
use Rattle.sx_rv_asm.specs.Walking as walking
use Rattle.sx_rv_machine.specs.Memory.{executable, bytes_at}
use Rattle.sx_rv_machine.specs.State.{State, register, with_register}
use Rattle.sx_rv_machine.specs.Step.{Stepped, step_of, step_unless, fetched, decoded_to, carried_out, taken, went, at, faulted}
use Rattle.sx_rv_machine.specs.declared.machine.Event.TheVariants.{Went}
use Rattle.sx_rv_link.specs.Following.{HasCode, Shows, steps, AllWent, Follows}

destination_small : (i : Instr) → destination i < 32
destination_small (Upper op rd imm) = rd.in_range
destination_small (Jump rd imm) = rd.in_range
destination_small (JumpTo rd rs1 imm) = rd.in_range
destination_small (Branch op rs1 rs2 imm) = omega arith
destination_small (Load op rd rs1 imm) = rd.in_range
destination_small (Store op rs1 rs2 imm) = omega arith
destination_small (Immediate op rd rs1 imm) = rd.in_range
destination_small (Shift op rd rs1 amount) = rd.in_range
destination_small (ShiftWord op rd rs1 amount) = rd.in_range
destination_small (Register op rd rs1 rs2) = rd.in_range
destination_small (Fence rd rs1 imm) = omega arith
destination_small (System op) = omega arith

first_small : (i : Instr) → first_source i < 32
first_small (Upper op rd imm) = omega arith
first_small (Jump rd imm) = omega arith
first_small (JumpTo rd rs1 imm) = rs1.in_range
first_small (Branch op rs1 rs2 imm) = rs1.in_range
first_small (Load op rd rs1 imm) = rs1.in_range
first_small (Store op rs1 rs2 imm) = rs1.in_range
first_small (Immediate op rd rs1 imm) = rs1.in_range
first_small (Shift op rd rs1 amount) = rs1.in_range
first_small (ShiftWord op rd rs1 amount) = rs1.in_range
first_small (Register op rd rs1 rs2) = rs1.in_range
first_small (Fence rd rs1 imm) = omega arith
first_small (System op) = omega arith

second_small : (i : Instr) → second_source i < 32
second_small (Upper op rd imm) = omega arith
second_small (Jump rd imm) = omega arith
second_small (JumpTo rd rs1 imm) = omega arith
second_small (Branch op rs1 rs2 imm) = rs2.in_range
second_small (Load op rd rs1 imm) = omega arith
second_small (Store op rs1 rs2 imm) = rs2.in_range
second_small (Immediate op rd rs1 imm) = omega arith
second_small (Shift op rd rs1 amount) = omega arith
second_small (ShiftWord op rd rs1 amount) = omega arith
second_small (Register op rd rs1 rs2) = rs2.in_range
second_small (Fence rd rs1 imm) = omega arith
second_small (System op) = omega arith

-- ---- registers
set_pc : (s : State) (b : Bool) (rs : List ℕ) → (if b then s else record s { registers = rs }).pc ≡ s.pc
set_pc s true rs = refl
set_pc s false rs = refl

pub set_memory : (s : State) (b : Bool) (rs : List ℕ) → (if b then s else record s { registers = rs }).memory ≡ s.memory
set_memory s true rs = refl
set_memory s false rs = refl

set_ending : (s : State) (b : Bool) (rs : List ℕ) → (if b then s else record s { registers = rs }).ending ≡ s.ending
set_ending s true rs = refl
set_ending s false rs = refl

set_registers : (s : State) (rd v : ℕ) → rd ≢ 0 → (with_register s rd v).registers ≡ set s.registers rd v
set_registers s rd v ne = ap (λ b. (if b then s else record s { registers = set s.registers rd v }).registers) (ne_eqb rd 0 ne)

keep_registers : (s : State) (rd v : ℕ) → rd ≡ 0 → (with_register s rd v).registers ≡ s.registers
keep_registers s rd v e = ap (λ b. (if b then s else record s { registers = set s.registers rd v }).registers) (eq-eqb rd 0 e)

-- a hart's register behind a write
written : (h : Hart) (pc rd v n : ℕ) → rd ≢ 0 → n ≡ rd → walking.register (hart pc (walking.with_register h.registers rd v)) n ≡ v
written h pc rd v n ne e =
    ap (λ b. if b then 0 else (if n == rd then v else h.registers n)) (ne_eqb n 0 (λ z. ne (sym e ∙ z))) ∙ ap (λ b. if b then v else h.registers n) (eq-eqb n rd e)

unwritten : (h : Hart) (pc rd v n : ℕ) → n ≢ rd → walking.register (hart pc (walking.with_register h.registers rd v)) n ≡ walking.register h n
unwritten h pc rd v n ne = ap (λ b. if n == 0 then 0 else (if b then v else h.registers n)) (ne_eqb n rd ne)

-- x0 stays 0 in both
zero_kept : (h : Hart) (pc rd v n : ℕ) → n ≡ 0 → walking.register (hart pc (walking.with_register h.registers rd v)) n ≡ walking.register h n
zero_kept h pc rd v n e =
    ap (λ b. if b then 0 else (if n == rd then v else h.registers n)) (eq-eqb n 0 e) ∙ sym (ap (λ b. if b then 0 else h.registers n) (eq-eqb n 0 e))

registers_shown : (s : State) (h : Hart) (pc rd v : ℕ) → rd < 32 → Shows s h → (n : ℕ) → n < 32 → register (with_register s rd v) n ≡ walking.register (hart pc (walking.with_register h.registers rd v)) n
registers_shown s h pc rd v small k n l = ⊎_elim
    (λ (e : rd ≡ 0). ⊎_elim
    (λ (z : n ≡ 0). ap (λ rs. get_or rs n 0) (keep_registers s rd v e) ∙ k.registers n l ∙ sym (zero_kept h pc rd v n z))
    (λ (z : n ≢ 0). ap (λ rs. get_or rs n 0) (keep_registers s rd v e) ∙ k.registers n l ∙ sym (unwritten h pc rd v n (λ q. z (q ∙ e))))
    (cases_eq n 0))
    (λ (ne : rd ≢ 0). ⊎_elim
    (λ (q : n ≡ rd). ap (λ rs. get_or rs n 0) (set_registers s rd v ne) ∙ ap (λ m. get_or (set s.registers rd v) m 0) q ∙ get_or-set_same s.registers rd v 0 (omega (arith, k.count, small)) ∙ sym (written h pc rd v n ne q))
    (λ (q : n ≢ rd). ap (λ rs. get_or rs n 0) (set_registers s rd v ne) ∙ get_or-set_other s.registers rd n v 0 q ∙ k.registers n l ∙ sym (unwritten h pc rd v n q))
    (cases_eq n rd))
    (cases_eq rd 0)

count_kept : (s : State) (rd v : ℕ) → length (with_register s rd v).registers ≡ length s.registers
count_kept s rd v = ⊎_elim
    (λ (e : rd ≡ 0). ap length (keep_registers s rd v e))
    (λ (ne : rd ≢ 0). ap length (set_registers s rd v ne) ∙ length-set s.registers rd v)
    (cases_eq rd 0)

-- ---- one step
record Stepping (s : State) (before : State) (h : Hart) (answer : Stepped) : Type 0 where
  event : answer.event ≡ Went
  shows : Shows answer.state h
  memory : answer.state.memory ≡ before.memory

shown_after : (s : State) (h : Hart) (place rd v : ℕ) → rd < 32 → Shows s h → Shows (at (with_register s rd v) place) (hart place (walking.with_register h.registers rd v))
shown_after s h place rd v small k = record {
  pc = refl;
  registers = registers_shown s h place rd v small k;
  count = count_kept s rd v ∙ k.count;
  running = set_ending s (rd == 0) (set s.registers rd v) ∙ k.running;
}

shown_at : (s : State) (h : Hart) (place : ℕ) → Shows s h → Shows (at s place) (hart place h.registers)
shown_at s h place k = record { pc = refl; registers = λ n l. k.registers n l; count = k.count; running = k.running }

some_is : {A : Type 0} (x y : A) → Some x ≡ Some y → x ≡ y
some_is x y e = cc

next_place : (s : State) (h : Hart) (rd v : ℕ) → Shows s h → ((with_register s rd v).pc + 4) % 2 ^ 64 ≡ (h.pc + 4) % 2 ^ 64
next_place s h rd v k = ap (λ p. (p + 4) % 2 ^ 64) (set_pc s (rd == 0) (set s.registers rd v) ∙ k.pc)

taken_shows : (s : State) (h after : Hart) (rd : ℕ) (e : Effect) → rd < 32 → Shows s h → took rd e h ≡ Some after → Stepping s s after (taken s rd e)
taken_shows s h after rd (effects.Value v) small k t =
    let a : hart ((h.pc + 4) % 2 ^ 64) (walking.with_register h.registers rd v) ≡ after = some_is _ after t in
    let place : ℕ = ((with_register s rd v).pc + 4) % 2 ^ 64 in
    record {
      event = refl;
      shows = subst (λ (x : Hart). Shows (at (with_register s rd v) place) x) (ap (λ p. hart p (walking.with_register h.registers rd v)) (next_place s h rd v k) ∙ a) (shown_after s h place rd v small k);
      memory = set_memory s (rd == 0) (set s.registers rd v);
    }
taken_shows s h after rd (effects.Jump target link) small k t = ⊎_elim
    (λ (e : target % 4 ≡ 0).
    let b : (target % 4 == 0) ≡ true = eq-eqb (target % 4) 0 e in
    let a : hart target (walking.with_register h.registers rd link) ≡ after = some_is _ after (sym (ap (λ z. if z then Some (hart target (walking.with_register h.registers rd link)) else None) b) ∙ t) in
    subst (λ (z : Bool). Stepping s s after (if z then went (at (with_register s rd link) target) else faulted s kind.JumpMisaligned)) (sym b)
    (record {
      event = refl;
      shows = subst (λ (x : Hart). Shows (at (with_register s rd link) target) x) a (shown_after s h target rd link small k);
      memory = set_memory s (rd == 0) (set s.registers rd link);
    }))
    (λ (ne : target % 4 ≢ 0). let none : None ≡ Some after = sym (ap (λ z. if z then Some (hart target (walking.with_register h.registers rd link)) else None) (ne_eqb (target % 4) 0 ne)) ∙ t in absurd (cc))
    (cases_eq (target % 4) 0)
taken_shows s h after rd (effects.Branch target) small k t = ⊎_elim
    (λ (e : target % 4 ≡ 0).
    let b : (target % 4 == 0) ≡ true = eq-eqb (target % 4) 0 e in
    let a : hart target h.registers ≡ after = some_is _ after (sym (ap (λ z. if z then Some (hart target h.registers) else None) b) ∙ t) in
    subst (λ (z : Bool). Stepping s s after (if z then went (at s target) else faulted s kind.JumpMisaligned)) (sym b)
    (record {
      event = refl;
      shows = subst (λ (x : Hart). Shows (at s target) x) a (shown_at s h target k);
      memory = refl;
    }))
    (λ (ne : target % 4 ≢ 0). let none : None ≡ Some after = sym (ap (λ z. if z then Some (hart target h.registers) else None) (ne_eqb (target % 4) 0 ne)) ∙ t in absurd (cc))
    (cases_eq (target % 4) 0)
taken_shows s h after rd effects.Next small k t =
    let a : hart ((h.pc + 4) % 2 ^ 64) h.registers ≡ after = some_is _ after t in
    let place : ℕ = (s.pc + 4) % 2 ^ 64 in
    record {
      event = refl;
      shows = subst (λ (x : Hart). Shows (at s place) x) (ap (λ p. hart ((p + 4) % 2 ^ 64) h.registers) k.pc ∙ a) (shown_at s h place k);
      memory = refl;
    }
taken_shows s h after rd (effects.Load address bytes signed) small k t = absurd (cc)
taken_shows s h after rd (effects.Store address bytes value) small k t = absurd (cc)
taken_shows s h after rd effects.Environment small k t = absurd (cc)
taken_shows s h after rd effects.Breakpoint small k t = absurd (cc)

carried : (s : State) (h after : Hart) (i : Instr) → Shows s h → executed i h ≡ Some after → Stepping s s after (carried_out s i)
carried s h after i k t =
    let e : effect i s.pc (register s (first_source i)) (register s (second_source i)) ≡ effect i h.pc (walking.register h (first_source i)) (walking.register h (second_source i)) =
    ap (λ p. effect i p (register s (first_source i)) (register s (second_source i))) k.pc
    ∙ ap (λ x. effect i h.pc x (register s (second_source i))) (k.registers (first_source i) (first_small i))
    ∙ ap (λ x. effect i h.pc (walking.register h (first_source i)) x) (k.registers (second_source i) (second_small i)) in
    subst (λ (x : Effect). Stepping s s after (taken s (destination i) x)) (sym e) (taken_shows s h after (destination i) (effect i h.pc (walking.register h (first_source i)) (walking.register h (second_source i))) (destination_small i) k t)

pub carried_at : (s : State) (code : List ℕ) (base place : ℕ) (i : Instr) → HasCode s base code → place + 4 ≤ length code → (base + place) % 4 ≡ 0 → decoded (from_le_bytes w32 (part code place 4)) ≡ Some i → s.ending ≡ None → s.pc ≡ base + place → step_of s ≡ carried_out s i
carried_at s code base place i c inside aligned d running here =
    let even : (s.pc % 4 == 0) ≡ true = eq-eqb (s.pc % 4) 0 (ap (λ x. x % 4) here ∙ aligned) in
    let bytes : bytes_at s.memory executable s.pc 4 ≡ Some (part code place 4) = ap (λ x. bytes_at s.memory executable x 4) here ∙ c.fetch place inside in
    ap (step_unless s) running
    ∙ ap (λ b. if b then fetched s (bytes_at s.memory executable s.pc 4) else faulted s kind.FetchMisaligned) even
    ∙ ap (fetched s) bytes
    ∙ ap (decoded_to s) d

stepped : (s : State) (h after : Hart) (code : List ℕ) (base at : ℕ) (i : Instr) → HasCode s base code → at + 4 ≤ length code → (base + at) % 4 ≡ 0 → decoded (from_le_bytes w32 (part code at 4)) ≡ Some i → Shows s h → h.pc ≡ base + at → executed i h ≡ Some after → Stepping s s after (step_of s)
stepped s h after code base place i c inside aligned d k p t =
    subst (λ (x : Stepped). Stepping s s after x) (sym (carried_at s code base place i c inside aligned d k.running (k.pc ∙ p))) (carried s h after i k t)

-- ---- walks
some_or_none : (o : Option Hart) → ((h : Hart) × (o ≡ Some h)) ⊎ (o ≡ None)
some_or_none (Some h) = inl (h, refl)
some_or_none None = inr refl

kept_code : (s s' : State) (base : ℕ) (code : List ℕ) → s'.memory ≡ s.memory → HasCode s base code → HasCode s' base code
kept_code s s' base code m c = record { fetch = λ p l. ap (λ x. bytes_at x executable (base + p) 4) m ∙ c.fetch p l }

one_more : (s : State) (after h : Hart) (most : ℕ) → Stepping s s h (step_of s) → Follows (step_of s).state after most → Follows s after (suc most)
unfolding steps AllWent
one_more s after h most g f = record {
  count = suc f.count;
  few = let l = f.few in omega arith;
  quiet = (g.event, f.quiet);
  shows = f.shows;
  memory = f.memory ∙ g.memory;
}

none_more : (s : State) (after : Hart) (most : ℕ) → Follows s after most → Follows s after (suc most)
none_more s after most f = record { count = f.count; few = let l = f.few in omega arith; quiet = f.quiet; shows = f.shows; memory = f.memory }

stays : (s : State) (h after : Hart) (most : ℕ) → Shows s h → Some h ≡ Some after → Follows s after most
unfolding steps AllWent
stays s h after most k t = record { count = zero; few = omega arith; quiet = tt; shows = subst (λ (x : Hart). Shows s x) (some_is h after t) k; memory = refl }

pub followed : (code : List ℕ) (base at : ℕ) (is : List Instr) (s : State) (before after : Hart) → (base + at) % 4 ≡ 0 → at + 4 * length is ≤ length code → Fetches code at is → HasCode s base code → Shows s before → through (base + at) is before ≡ Some after → Follows s after (length is)
followed code base place [] s before after a l f c k t = stays s before after 0 k t
followed code base place (i ∷ is) s before after a l f c k t =
    let inside : place + 4 ≤ length code = omega arith in
    let rest : (place + 4) + 4 * length is ≤ length code = omega arith in
    let even : (base + (place + 4)) % 4 ≡ 0 = omega arith in
    let same : base + place + 4 ≡ base + (place + 4) = omega arith in
    ⊎_elim
    (λ (here : before.pc ≡ base + place).
    let u : option_and_then (through (base + place + 4) is) (executed i before) ≡ Some after =
    sym (ap (λ b. if b then option_and_then (through (base + place + 4) is) (executed i before) else through (base + place + 4) is before) (eq-eqb before.pc (base + place) here)) ∙ t in
    ⊎_elim
    (λ (x : (h : Hart) × (executed i before ≡ Some h)).
    let h : Hart = x.0 in
    let g : Stepping s s h (step_of s) = stepped s before h code base place i c inside a f.0 k here x.1 in
    let v : through (base + (place + 4)) is h ≡ Some after = ap (λ p. through p is h) (sym same) ∙ sym (ap (option_and_then (through (base + place + 4) is)) x.1) ∙ u in
    one_more s after h (length is) g (followed code base (place + 4) is (step_of s).state h after even rest f.1 (kept_code s (step_of s).state base code g.memory c) g.shows v))
    (λ (x : executed i before ≡ None). let w : None ≡ Some after = sym (ap (option_and_then (through (base + place + 4) is)) x) ∙ u in absurd (cc))
    (some_or_none (executed i before)))
    (λ (away : before.pc ≢ base + place).
    let u : through (base + (place + 4)) is before ≡ Some after =
    ap (λ p. through p is before) (sym same)
    ∙ sym (ap (λ b. if b then option_and_then (through (base + place + 4) is) (executed i before) else through (base + place + 4) is before) (ne_eqb before.pc (base + place) away)) ∙ t in
    none_more s after (length is) (followed code base (place + 4) is s before after even rest f.1 c k u))
    (cases_eq before.pc (base + place))
