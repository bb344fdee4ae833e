-- The code is the first area of the memory, and no store changes it.
use Rattle.std.proofs.Common.{◌≡◌, ℕ, ◌+◌, ◌-◌, ◌/◌, ◌%◌, ◌≤◌, List, ◌∷◌, length, Bool, true, false, Option, Some, None, refl, sym, ap, ◌∙◌, arith}
use Rattle.std.specs.Prelude.{◌==◌, ◌&&◌, nat_le, option_map, if◌then◌else◌}
use Rattle.std.proofs.lemmas.Bool.{eq-eqb, ne_eqb, le-leb}
use Rattle.sx_rv_asm.specs.Fetching as fetching
use Rattle.sx_rv_machine.specs.Memory.{Area, executable, writable, covers, part, or_else, area_with, bytes_at, with_bytes}
use Rattle.sx_rv_machine.specs.State.{State}
use Rattle.sx_rv_link.specs.Following.{HasCode, LiesFirst}

three : (x y z : Bool) → x ≡ true → y ≡ true → z ≡ true → (x && (y && z)) ≡ true
three true true true p q r = refl
three true true false p q r = r
three true false z p q r = absurd (cc)
three false y z p q r = absurd (cc)

executed_part : (a : Area) (base at : ℕ) (code : List ℕ) (rest : List Area) → a.start ≡ base → a.bytes ≡ code → a.flags % 2 ≡ 1 → at + 4 ≤ length code → bytes_at (a ∷ rest) executable (base + at) 4 ≡ Some (fetching.part code at 4)
executed_part a base at code rest s b f l =
    let flag : (a.flags / 1 % 2 == 1) ≡ true = eq-eqb (a.flags / 1 % 2) 1 (omega (arith, f)) in
    let from : nat_le a.start (base + at) ≡ true = le-leb a.start (base + at) (omega (arith, s)) in
    let size : length a.bytes ≡ length code = ap length b in
    let to : nat_le (base + at + 4) (a.start + length a.bytes) ≡ true = le-leb (base + at + 4) (a.start + length a.bytes) (omega (arith, s, size, l)) in
    let covered : covers a executable (base + at) 4 ≡ true = three _ _ _ flag from to in
    let shift : base + at - a.start ≡ at = omega (arith, s) in
    ap (λ (x : Bool). or_else (if x then Some (part a.bytes (base + at - a.start) 4) else None) (bytes_at rest executable (base + at) 4)) covered
    ∙ ap (λ n. Some (part a.bytes n 4)) shift ∙ ap (λ (c : List ℕ). Some (part c at 4)) b

pub first_has_code : (s : State) (base : ℕ) (code : List ℕ) → LiesFirst s.memory base code → HasCode s base code
first_has_code s base code h = record { fetch = λ at l. ap (λ m. bytes_at m executable (base + at) 4) h.first ∙ executed_part h.area base at code h.rest h.start h.bytes h.may_execute l }

not_covered : (x : Bool) (y z : Bool) → x ≡ false → (x && (y && z)) ≡ false
not_covered false y z e = refl
not_covered true y z e = absurd (cc)

-- the areas behind the code are what a store changes
stored_behind : (a : Area) (rest : List Area) (at : ℕ) (new : List ℕ) (memory : List Area) → a.flags / 2 % 2 ≡ 0 → with_bytes (a ∷ rest) at new ≡ Some memory → (changed : List Area) × (memory ≡ a ∷ changed)
stored_behind a rest at new memory w e =
    let flag : (a.flags / 2 % 2 == 1) ≡ false = ne_eqb (a.flags / 2 % 2) 1 (λ x. absurd (omega (arith, x, w))) in
    let apart : covers a writable at (length new) ≡ false = not_covered (a.flags / 2 % 2 == 1) (nat_le a.start at) (nat_le (at + length new) (a.start + length a.bytes)) flag in
    let t : option_map (λ r. a ∷ r) (with_bytes rest at new) ≡ Some memory = sym (ap (λ (x : Bool). if x then Some (area_with a at new ∷ rest) else option_map (λ r. a ∷ r) (with_bytes rest at new)) apart) ∙ e in
    behind (with_bytes rest at new) t
  where
    behind : (o : Option (List Area)) → option_map (λ r. a ∷ r) o ≡ Some memory → (changed : List Area) × (memory ≡ a ∷ changed)
    behind (Some r) t = (r, sym (inside t))
      where
        inside : Some (a ∷ r) ≡ Some memory → (a ∷ r) ≡ memory
        inside q = cc
    behind None t = absurd (cc)

pub first_stays : (before : List Area) (base : ℕ) (code : List ℕ) (at : ℕ) (new : List ℕ) (memory : List Area) → LiesFirst before base code → with_bytes before at new ≡ Some memory → LiesFirst memory base code
first_stays before base code at new memory h e =
    let z = stored_behind h.area h.rest at new memory h.may_not_write (ap (λ m. with_bytes m at new) (sym h.first) ∙ e) in
    record { area = h.area; rest = z.0; first = z.1; start = h.start; bytes = h.bytes; may_execute = h.may_execute; may_not_write = h.may_not_write }
