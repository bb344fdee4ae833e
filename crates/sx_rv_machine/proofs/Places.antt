-- Reads and writes by the place of an area in the memory, and the step at an instruction's word.
use Rattle.std.proofs.Common.{◌≡◌, ℕ, ◌+◌, ◌-◌, ◌/◌, ◌%◌, ◌<◌, ◌≤◌, Bool, true, false, List, ◌∷◌, length, Option, Some, None, refl, ap, ◌∙◌}
use Rattle.std.specs.Prelude.{nat_le, ◌&&◌, ◌==◌, if◌then◌else◌, option_map}
use Rattle.std.specs.Int.{to_le_bytes, w32}
use Rattle.std.proofs.lemmas.Nat.{from_le_bytes-to_le_bytes_4}
use Rattle.std.proofs.lemmas.Bool.{le-leb, lt-leb}
use Rattle.sx_rv_isa.specs.Words.{word_of, decoded}
use Rattle.sx_rv_isa.specs.declared.instructions.Instr.{Instr}
use Rattle.sx_rv_isa.specs.declared.faults.MachineKind.TheVariants as kind
use Rattle.sx_rv_isa.proofs.Forth.{forth, fits}
use Rattle.sx_rv_machine.specs.Memory.{Area, executable, writable, covers, part, or_else, bytes_at, area_with, with_bytes}
use Rattle.sx_rv_machine.specs.State.{State}
use Rattle.sx_rv_machine.specs.declared.machine.Ending.{Ending}
use Rattle.sx_rv_machine.specs.Step.{is_aligned, carried_out, decoded_to, fetched, faulted, step_unless, step_of}

-- an area that has the bytes and the permission
pub covers_all : (a : Area) (permission at count : ℕ) → ((a.flags / permission % 2) == 1) ≡ true → a.start ≤ at → at + count ≤ a.start + length a.bytes → covers a permission at count ≡ true
covers_all a permission at count on from to =
    ap (λ (b : Bool). b && (nat_le a.start at && nat_le (at + count) (a.start + length a.bytes))) on
    ∙ ap (λ (b : Bool). b && nat_le (at + count) (a.start + length a.bytes)) (le-leb a.start at from)
    ∙ le-leb (at + count) (a.start + length a.bytes) to

-- an area that lies wholly before the bytes
pub covers_none : (a : Area) (permission at count : ℕ) → a.start + length a.bytes < at + count → covers a permission at count ≡ false
covers_none a permission at count past =
    ap (λ (b : Bool). ((a.flags / permission % 2) == 1) && (nat_le a.start at && b)) (lt-leb (at + count) (a.start + length a.bytes) past)
    ∙ ap (λ (b : Bool). ((a.flags / permission % 2) == 1) && b) (none (nat_le a.start at))
    ∙ none ((a.flags / permission % 2) == 1)
  where
    none : (b : Bool) → (b && false) ≡ false
    none true = refl
    none false = refl

-- an area without the permission
pub covers_without : (a : Area) (permission at count : ℕ) → ((a.flags / permission % 2) == 1) ≡ false → covers a permission at count ≡ false
covers_without a permission at count off = ap (λ (b : Bool). b && (nat_le a.start at && nat_le (at + count) (a.start + length a.bytes))) off

-- reads: from the first area, or from those behind it
pub read_first : (a : Area) (areas : List Area) (permission at count : ℕ) → covers a permission at count ≡ true → bytes_at (a ∷ areas) permission at count ≡ Some (part a.bytes (at - a.start) count)
read_first a areas permission at count covered =
    ap (λ (b : Bool). or_else (if b then Some (part a.bytes (at - a.start) count) else None) (bytes_at areas permission at count)) covered

pub read_behind : (a : Area) (areas : List Area) (permission at count : ℕ) → covers a permission at count ≡ false → bytes_at (a ∷ areas) permission at count ≡ bytes_at areas permission at count
read_behind a areas permission at count covered =
    ap (λ (b : Bool). or_else (if b then Some (part a.bytes (at - a.start) count) else None) (bytes_at areas permission at count)) covered

-- writes: into the first area, or into those behind it
pub write_first : (a : Area) (areas : List Area) (at : ℕ) (new : List ℕ) → covers a writable at (length new) ≡ true → with_bytes (a ∷ areas) at new ≡ Some (area_with a at new ∷ areas)
write_first a areas at new covered =
    ap (λ (b : Bool). if b then Some (area_with a at new ∷ areas) else option_map (λ (rest : List Area). a ∷ rest) (with_bytes areas at new)) covered

pub write_behind : (a : Area) (areas : List Area) (at : ℕ) (new : List ℕ) → covers a writable at (length new) ≡ false → with_bytes (a ∷ areas) at new ≡ option_map (λ (rest : List Area). a ∷ rest) (with_bytes areas at new)
write_behind a areas at new covered =
    ap (λ (b : Bool). if b then Some (area_with a at new ∷ areas) else option_map (λ (rest : List Area). a ∷ rest) (with_bytes areas at new)) covered

-- a step where the word of an instruction lies
pub step_at : (s : State) (i : Instr) → s.ending ≡ None → is_aligned s.pc 4 ≡ true → bytes_at s.memory executable s.pc 4 ≡ Some (to_le_bytes w32 (word_of i)) → step_of s ≡ carried_out s i
step_at s i going aligned there =
    ap (λ (o : Option Ending). step_unless s o) going
    ∙ ap (λ (b : Bool). if b then fetched s (bytes_at s.memory executable s.pc 4) else faulted s kind.FetchMisaligned) aligned
    ∙ ap (λ (o : Option (List ℕ)). fetched s o) there
    ∙ ap (λ w. decoded_to s (decoded w)) (from_le_bytes-to_le_bytes_4 (word_of i) (fits i))
    ∙ ap (λ (o : Option Instr). decoded_to s o) (forth i)

-- a step of a run that has ended changes nothing
pub step_stays : (s : State) (e : Ending) → s.ending ≡ Some e → (step_of s).state ≡ s
step_stays s e ended = ap (λ (o : Option Ending). (step_unless s o).state) ended
