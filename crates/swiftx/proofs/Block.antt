-- The instructions that print a line do so, wherever they stand.
use Rattle.std.proofs.Common.{◌≡◌, ℕ, ◌+◌, ◌-◌, ◌*◌, ◌/◌, ◌%◌, ◌^◌, ◌<◌, ◌≤◌, true, List, [], ◌∷◌, ◌++◌, length, take, drop, Some, None, sym, refl, ap, ◌∙◌, arith, length-append, append_assoc}
use Rattle.std.proofs.lemmas.List.{length-replicate}
use Rattle.std.specs.Prelude.{Bool, nat_le, ◌&&◌, ◌||◌, is_some, if◌then◌else◌, ◌==◌, replicate}
use Rattle.std.specs.Int.{to_le_bytes, w32}
use Rattle.std.proofs.lemmas.Nat.{from_le_bytes-to_le_bytes_4}
use Rattle.std.proofs.lemmas.Bool.{le-leb}
use Rattle.std.proofs.lemmas.Bool.Decides.{nat_tests}
use Rattle.std.proofs.Math.Seq.{drop-append-add, take-append_seam}
use Rattle.std.proofs.Math.Bool.{or-true}
use Rattle.sx_rv_isa.specs.declared.instructions.Instr.{Instr}
use Rattle.sx_rv_isa.specs.declared.instructions.Instr.TheVariants.{Upper, Jump, System}
use Rattle.sx_rv_isa.specs.declared.instructions.UpperOp.TheVariants.{Lui, Auipc}
use Rattle.sx_rv_isa.specs.declared.instructions.SystemOp.TheVariants.{Ecall}
use Rattle.sx_rv_isa.specs.declared.faults.MachineKind.TheVariants as kind
use Rattle.sx_rv_isa.specs.Words.{word_of, decoded, reg, imm20}
use Rattle.sx_rv_isa.specs.Effects.{extend, register_value}
use Rattle.sx_rv_machine.specs.Memory.{Area, bytes_at, or_else, part, executable, readable}
use Rattle.sx_rv_machine.specs.State.{State, with_register}
use Rattle.sx_rv_machine.specs.Step.{Stepped, step_of, step_unless, fetched, faulted, decoded_to, carried_out, jumped, went, at as at'}
use Rattle.sx_rv_machine.specs.Run.{Running}
use Rattle.sx_rv_machine.specs.declared.machine.Event.{Event}
use Rattle.sx_rv_machine.specs.declared.machine.Event.TheVariants.{Went, Wrote, Exited}
use Rattle.sx_rv_machine.specs.declared.machine.Ending.TheVariants.{Exits}
use Rattle.swiftx.specs.Prints.{line_feed}
use Rattle.swiftx.specs.PrintCode.{a0, a1, a2, a7, x0, add_immediate, upper_part, lower_part, word_bytes, padding, line_size, stored_size, stored, print_instructions, print_code, exit_code}

-- the laws of the instruction table: words have 32 bits, and what is encoded is decoded
pub record Table : Type 0 where
  pub fits : (i : Instr) → word_of i < 2 ^ 32
  pub decodes : (i : Instr) → decoded (word_of i) ≡ Some i

abbrev pub code_area : List ℕ → Area
code_area code = record { start = 65536; flags = 5; bytes = code }

-- what lies in the code may be fetched and read
pub in_code : (code : List ℕ) (more : List Area) (permission at pc count : ℕ) → pc ≡ 65536 + at → ((5 / permission % 2) == 1) ≡ true → at + count ≤ length code → bytes_at (code_area code ∷ more) permission pc count ≡ Some (part code at count)
in_code code more permission at pc count is on fits =
    let low : nat_le 65536 pc ≡ true = le-leb 65536 pc (omega arith) in
    let high : nat_le (pc + count) (65536 + length code) ≡ true = le-leb (pc + count) (65536 + length code) (omega arith) in
    let off : pc - 65536 ≡ at = omega arith in
    ap (λ b. or_else (if b && (nat_le 65536 pc && nat_le (pc + count) (65536 + length code)) then Some (part code (pc - 65536) count) else None) (bytes_at more permission pc count)) on
    ∙ ap (λ b. or_else (if b && nat_le (pc + count) (65536 + length code) then Some (part code (pc - 65536) count) else None) (bytes_at more permission pc count)) low
    ∙ ap (λ b. or_else (if b then Some (part code (pc - 65536) count) else None) (bytes_at more permission pc count)) high
    ∙ ap (λ n. Some (part code n count)) off

-- one step at an instruction's word
pub one_step : Table → (s : State) (i : Instr) → s.ending ≡ None → ((s.pc % 4) == 0) ≡ true → bytes_at s.memory executable s.pc 4 ≡ Some (to_le_bytes w32 (word_of i)) → step_of s ≡ carried_out s i
one_step table s i going aligned there =
    ap (λ o. step_unless s o) going
    ∙ ap (λ b. if b then fetched s (bytes_at s.memory executable s.pc 4) else faulted s kind.FetchMisaligned) aligned
    ∙ ap (λ o. fetched s o) there
    ∙ ap (λ w. decoded_to s (decoded w)) (from_le_bytes-to_le_bytes_4 (word_of i) (table.fits i))
    ∙ ap (λ o. decoded_to s o) (table.decodes i)

-- a small immediate is extended to itself, and a number is the sum of its parts
extend12_low : (v : ℕ) → v < 2048 → extend 12 v ≡ v
unfolding extend
extend12_low v h = grind (arith, nat_tests)

pub loads_number : (n : ℕ) → n < 2 ^ 30 → (extend 32 (upper_part n % 1048576 * 2 ^ 12) + extend 12 (lower_part n % 4096)) % 2 ^ 64 ≡ n
unfolding extend
loads_number n h = grind (arith, nat_tests)

-- a jump forward
pub jumps_forward : (n : ℕ) → n < 2 ^ 19 → extend 21 (n % 1048576 * 2) ≡ n * 2
unfolding extend
jumps_forward n h = grind (arith, nat_tests)

-- the registers that the code uses, and all others 0
abbrev pub registers : ℕ → ℕ → ℕ → ℕ → List ℕ
registers a b c d = 0 ∷ 0 ∷ 0 ∷ 0 ∷ 0 ∷ 0 ∷ 0 ∷ 0 ∷ 0 ∷ 0 ∷ a ∷ b ∷ c ∷ 0 ∷ 0 ∷ 0 ∷ 0 ∷ d ∷ 0 ∷ 0 ∷ 0 ∷ 0 ∷ 0 ∷ 0 ∷ 0 ∷ 0 ∷ 0 ∷ 0 ∷ 0 ∷ 0 ∷ 0 ∷ 0 ∷ []

unfoldable pub hart : List Area → ℕ → ℕ → ℕ → ℕ → ℕ → State
hart memory a b c d pc = record { registers = registers a b c d; memory = memory; pc = pc; ending = None }

unfoldable pub stepped : Event → State → Stepped
stepped e s = record { event = e; state = s }

-- a state of the machine with what was written
unfoldable pub running : State → List ℕ → Running
running s out = record { state = s; out = out; err = [] }

wrapped : (pc q : ℕ) → q ≡ pc + 4 → q < 2 ^ 31 → (pc + 4) % 2 ^ 64 ≡ q
wrapped pc q e h = omega arith

is_multiple : (pc : ℕ) → pc % 4 ≡ 0 → ((pc % 4) == 0) ≡ true
is_multiple pc e = ap (λ n. n == 0) e

-- a line's code with some code before it and some behind it
module _ (table : Table) (front rest literal : List ℕ) (more : List Area) (pc : ℕ) (at : pc ≡ 65536 + length front) (multiple : pc % 4 ≡ 0) (short : length literal ≤ 262144) (near : pc < 2 ^ 30) where
  abbrev pub code : List ℕ
  code = front ++ (print_code literal ++ rest)

  abbrev pub memory : List Area
  memory = code_area code ∷ more

  abbrev pub size : ℕ
  size = line_size literal

  abbrev pub behind : ℕ
  behind = stored_size literal

  pub length-stored : length (stored literal) ≡ behind
  length-stored = by (padding size)
    where
      by : (n : ℕ) → length ((literal ++ line_feed ∷ []) ++ replicate n 0) ≡ length literal + 1 + n
      by n = let e = length-append (literal ++ line_feed ∷ []) (replicate n 0) in let f = length-append literal (line_feed ∷ []) in let g = length-replicate {A = ℕ} n 0 in omega (arith, e, f, g)

  pub length-code : length code ≡ length front + (32 + behind + length rest)
  length-code =
      let e = length-append front (print_code literal ++ rest) in
      let f = length-append (print_code literal) rest in
      let g = length-append (word_bytes (print_instructions literal)) (stored literal) in
      let h = length-stored in
      omega (arith, e, f, g, h)

  piece : (i count : ℕ) → part code (length front + i) count ≡ take count (drop i (print_code literal ++ rest))
  piece i count = ap (take count) (drop-append-add front (print_code literal ++ rest) i)

  there : (i p : ℕ) → p ≡ pc + i → i + 4 ≤ 32 → bytes_at memory executable p 4 ≡ Some (take 4 (drop i (print_code literal ++ rest)))
  there i p e h = in_code code more executable (length front + i) p 4 (omega (arith, e, at)) refl (omega (arith, length-code)) ∙ ap Some (piece i 4)

  -- the eight steps, from pc on
  abbrev goes : (s : State) (e : Event) (t : State) → Type 0
  goes s e t = step_of s ≡ stepped e t

  pub step0 : (a b c d : ℕ) → goes (hart memory a b c d pc) Went (hart memory 1 b c d (pc + 4))
  unfolding stepped hart register_value extend
  step0 a b c d =
      one_step table (hart memory a b c d pc) (add_immediate a0 x0 1) refl (is_multiple pc multiple) (there 0 pc (omega arith) (omega arith))
      ∙ ap (λ p. stepped Went (hart memory 1 b c d p)) (wrapped pc (pc + 4) refl (omega (arith, near)))

  next_word : (p : ℕ) → p % 4 ≡ 0 → ((p + 4) % 4 == 0) ≡ true
  next_word p e = is_multiple (p + 4) (omega (arith, e))

  aligned : (i : ℕ) → i % 4 ≡ 0 → (((pc + i) % 4) == 0) ≡ true
  aligned i e = is_multiple (pc + i) (omega (arith, e, multiple))

  pub step1 : (b c d : ℕ) → goes (hart memory 1 b c d (pc + 4)) Went (hart memory 1 (pc + 4) c d (pc + 8))
  unfolding stepped hart register_value extend
  step1 b c d =
      one_step table (hart memory 1 b c d (pc + 4)) (Upper Auipc (reg a1) (imm20 0)) refl (aligned 4 refl) (there 4 (pc + 4) refl (omega arith))
      ∙ ap (λ p. stepped Went (hart memory 1 ((pc + 4 + 0) % 2 ^ 64) c d p)) (wrapped (pc + 4) (pc + 8) (omega arith) (omega (arith, near)))
      ∙ ap (λ v. stepped Went (hart memory 1 v c d (pc + 8))) value
    where
      value : (pc + 4 + 0) % 2 ^ 64 ≡ pc + 4
      value = omega (arith, near)

  pub step2 : (c d : ℕ) → goes (hart memory 1 (pc + 4) c d (pc + 8)) Went (hart memory 1 (pc + 32) c d (pc + 12))
  unfolding stepped hart register_value extend
  step2 c d =
      one_step table (hart memory 1 (pc + 4) c d (pc + 8)) (add_immediate a1 a1 28) refl (aligned 8 refl) (there 8 (pc + 8) refl (omega arith))
      ∙ ap (λ p. stepped Went (hart memory 1 ((pc + 4 + 28) % 2 ^ 64) c d p)) (wrapped (pc + 8) (pc + 12) (omega arith) (omega (arith, near)))
      ∙ ap (λ v. stepped Went (hart memory 1 v c d (pc + 12))) value
    where
      value : (pc + 4 + 28) % 2 ^ 64 ≡ pc + 32
      value = omega (arith, near)

  pub step3 : (c d : ℕ) → goes (hart memory 1 (pc + 32) c d (pc + 12)) Went (hart memory 1 (pc + 32) (extend 32 (upper_part size % 1048576 * 2 ^ 12)) d (pc + 16))
  unfolding stepped hart
  step3 c d =
      one_step table (hart memory 1 (pc + 32) c d (pc + 12)) (Upper Lui (reg a2) (imm20 (upper_part size))) refl (aligned 12 refl) (there 12 (pc + 12) refl (omega arith))
      ∙ ap (λ p. stepped Went (hart memory 1 (pc + 32) (extend 32 (upper_part size % 1048576 * 2 ^ 12)) d p)) (wrapped (pc + 12) (pc + 16) (omega arith) (omega (arith, near)))

  pub step4 : (d : ℕ) → goes (hart memory 1 (pc + 32) (extend 32 (upper_part size % 1048576 * 2 ^ 12)) d (pc + 16)) Went (hart memory 1 (pc + 32) size d (pc + 20))
  unfolding stepped hart register_value
  step4 d =
      one_step table (hart memory 1 (pc + 32) (extend 32 (upper_part size % 1048576 * 2 ^ 12)) d (pc + 16)) (add_immediate a2 a2 (lower_part size)) refl (aligned 16 refl) (there 16 (pc + 16) refl (omega arith))
      ∙ ap (λ p. stepped Went (hart memory 1 (pc + 32) ((extend 32 (upper_part size % 1048576 * 2 ^ 12) + extend 12 (lower_part size % 4096)) % 2 ^ 64) d p)) (wrapped (pc + 16) (pc + 20) (omega arith) (omega (arith, near)))
      ∙ ap (λ v. stepped Went (hart memory 1 (pc + 32) v d (pc + 20))) (loads_number size (omega (arith, short)))

  pub step5 : (d : ℕ) → goes (hart memory 1 (pc + 32) size d (pc + 20)) Went (hart memory 1 (pc + 32) size 64 (pc + 24))
  unfolding stepped hart register_value extend
  step5 d =
      one_step table (hart memory 1 (pc + 32) size d (pc + 20)) (add_immediate a7 x0 64) refl (aligned 20 refl) (there 20 (pc + 20) refl (omega arith))
      ∙ ap (λ p. stepped Went (hart memory 1 (pc + 32) size 64 p)) (wrapped (pc + 20) (pc + 24) (omega arith) (omega (arith, near)))

  pub text_there : bytes_at memory readable (pc + 32) size ≡ Some (literal ++ line_feed ∷ [])
  text_there =
      in_code code more readable (length front + 32) (pc + 32) size (omega (arith, at)) refl (omega (arith, length-code))
      ∙ ap Some (piece 32 size)
      ∙ ap (λ x. Some (take size x)) (append_assoc (literal ++ line_feed ∷ []) (replicate (padding size) 0) rest)
      ∙ ap Some whole
    where
      whole : take size ((literal ++ line_feed ∷ []) ++ (replicate (padding size) 0 ++ rest)) ≡ literal ++ line_feed ∷ []
      whole = let e : length (literal ++ line_feed ∷ []) ≡ size = length-append literal (line_feed ∷ []) in ap (λ n. take n ((literal ++ line_feed ∷ []) ++ (replicate (padding size) 0 ++ rest))) (sym e) ∙ take-append_seam (literal ++ line_feed ∷ []) (replicate (padding size) 0 ++ rest)

  pub step6 : goes (hart memory 1 (pc + 32) size 64 (pc + 24)) (Wrote 1 (pc + 32) size) (hart memory size (pc + 32) size 64 (pc + 28))
  unfolding stepped hart
  step6 =
      one_step table (hart memory 1 (pc + 32) size 64 (pc + 24)) (System Ecall) refl (aligned 24 refl) (there 24 (pc + 24) refl (omega arith))
      ∙ ap (λ (b : Bool). if b then (record { event = Wrote 1 (pc + 32) size; state = at' (with_register s 10 size) ((pc + 24 + 4) % 2 ^ 64) }) else faulted s kind.Environment) allowed
      ∙ ap (λ p. stepped (Wrote 1 (pc + 32) size) (hart memory size (pc + 32) size 64 p)) (wrapped (pc + 24) (pc + 28) (omega arith) (omega (arith, near)))
    where
      s : State
      s = hart memory 1 (pc + 32) size 64 (pc + 24)

      allowed : ((size == 0) || is_some (bytes_at memory readable (pc + 32) size)) ≡ true
      allowed = ap (λ o. (size == 0) || is_some o) text_there ∙ or-true (size == 0)

  pub step7 : goes (hart memory size (pc + 32) size 64 (pc + 28)) Went (hart memory size (pc + 32) size 64 (pc + (32 + behind)))
  unfolding stepped hart register_value
  step7 =
      one_step table (hart memory size (pc + 32) size 64 (pc + 28)) (Jump (reg x0) (imm20 ((4 + behind) / 2))) refl (aligned 28 refl) (there 28 (pc + 28) refl (omega arith))
      ∙ ap (λ v. jumped s 0 ((pc + 28 + v) % 2 ^ 64) ((pc + 28 + 4) % 2 ^ 64)) reach
      ∙ ap (λ p. jumped s 0 p ((pc + 28 + 4) % 2 ^ 64)) target
      ∙ ap (λ (b : Bool). if b then went (at' s (pc + (32 + behind))) else faulted s kind.JumpMisaligned) (is_multiple (pc + (32 + behind)) (omega (arith, multiple)))
    where
      s : State
      s = hart memory size (pc + 32) size 64 (pc + 28)

      reach : extend 21 ((4 + behind) / 2 % 1048576 * 2) ≡ 4 + behind
      reach = jumps_forward ((4 + behind) / 2) (omega (arith, short)) ∙ omega arith

      target : (pc + 28 + (4 + behind)) % 2 ^ 64 ≡ pc + (32 + behind)
      target = omega (arith, near, short)

-- the three steps that exit
module _ (table : Table) (front : List ℕ) (more : List Area) (pc : ℕ) (at : pc ≡ 65536 + length front) (multiple : pc % 4 ≡ 0) (near : pc < 2 ^ 30) where
  abbrev exit_memory : List Area
  exit_memory = code_area (front ++ exit_code) ∷ more

  length-exit : length (front ++ exit_code) ≡ length front + 16
  unfolding exit_code
  length-exit = length-append front exit_code ∙ omega arith

  exit_there : (i p : ℕ) → p ≡ pc + i → i + 4 ≤ 16 → bytes_at exit_memory executable p 4 ≡ Some (take 4 (drop i exit_code))
  exit_there i p e h =
      in_code (front ++ exit_code) more executable (length front + i) p 4 (omega (arith, e, at)) refl (omega (arith, length-exit))
      ∙ ap (λ x. Some (take 4 x)) (drop-append-add front exit_code i)

  exit_aligned : (i : ℕ) → i % 4 ≡ 0 → (((pc + i) % 4) == 0) ≡ true
  exit_aligned i e = is_multiple (pc + i) (omega (arith, e, multiple))

  pub exit0 : (a b c d : ℕ) → step_of (hart exit_memory a b c d pc) ≡ stepped Went (hart exit_memory 0 b c d (pc + 4))
  unfolding stepped hart register_value extend exit_code
  exit0 a b c d =
      one_step table (hart exit_memory a b c d pc) (add_immediate a0 x0 0) refl (is_multiple pc multiple) (exit_there 0 pc (omega arith) (omega arith))
      ∙ ap (λ p. stepped Went (hart exit_memory 0 b c d p)) (wrapped pc (pc + 4) refl (omega (arith, near)))

  pub exit1 : (b c d : ℕ) → step_of (hart exit_memory 0 b c d (pc + 4)) ≡ stepped Went (hart exit_memory 0 b c 93 (pc + 8))
  unfolding stepped hart register_value extend exit_code
  exit1 b c d =
      one_step table (hart exit_memory 0 b c d (pc + 4)) (add_immediate a7 x0 93) refl (exit_aligned 4 refl) (exit_there 4 (pc + 4) refl (omega arith))
      ∙ ap (λ p. stepped Went (hart exit_memory 0 b c 93 p)) (wrapped (pc + 4) (pc + 8) (omega arith) (omega (arith, near)))

  unfoldable pub exited : ℕ → ℕ → State
  exited b c = record (hart exit_memory 0 b c 93 (pc + 8)) { ending = Some (Exits 0) }

  pub exit2 : (b c : ℕ) → step_of (hart exit_memory 0 b c 93 (pc + 8)) ≡ stepped (Exited 0) (exited b c)
  unfolding stepped hart exit_code exited
  exit2 b c =
      one_step table (hart exit_memory 0 b c 93 (pc + 8)) (System Ecall) refl (exit_aligned 8 refl) (exit_there 8 (pc + 8) refl (omega arith))

pub length-print : (literal : List ℕ) → length (print_code literal) ≡ 32 + stored_size literal
length-print literal = by (padding (line_size literal))
  where
    by : (n : ℕ) → length (word_bytes (print_instructions literal) ++ ((literal ++ line_feed ∷ []) ++ replicate n 0)) ≡ 32 + (length literal + 1 + n)
    by n = let d = length-append (word_bytes (print_instructions literal)) ((literal ++ line_feed ∷ []) ++ replicate n 0) in let e = length-append (literal ++ line_feed ∷ []) (replicate n 0) in let f = length-append literal (line_feed ∷ []) in let g = length-replicate {A = ℕ} n 0 in omega (arith, d, e, f, g)

-- what LUI gives for the line's size
abbrev pub upper_value : List ℕ → ℕ
upper_value literal = extend 32 (upper_part (line_size literal) % 1048576 * 2 ^ 12)
