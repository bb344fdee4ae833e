-- The program headers from one on.
use Rattle.std.proofs.Common.{◌≡◌, ℕ, suc, ◌+◌, ◌-◌, ◌*◌, ◌<◌, ◌≤◌, Bool, true, false, not, ◌||◌, cond, nat_le, List, [], ◌∷◌, ◌++◌, length, filter, flat_map, Option, Some, None, refl, sym, ap, ◌∙◌, subst, append_assoc, arith}
use Rattle.std.proofs.lemmas.Bool.{leb-true}
use Rattle.sx_elf.specs.declared.program_header.ProgramHeader.{ProgramHeader}
use Rattle.sx_elf.specs.declared.elf_stop.ElfStop.{ElfStop}
use Rattle.sx_elf.specs.Fields.{e_phoff, program_header, headers_from}
use Rattle.sx_elf.specs.Tests.{first_failing, program_header_tests, is_dynamic, is_load, is_well_formed, bytes_end, IsRefusal}
use Rattle.sx_elf.proofs.Failing.{first_failing-passed, IsRefusal-failed}

pub headers_from-step : (bytes : List ℕ) (number count : ℕ) (header : ProgramHeader) → number < count → header ≡ program_header bytes number (e_phoff bytes + 56 * number)
    → headers_from bytes number (count - number) ≡ header ∷ headers_from bytes (number + 1) (count - (number + 1))
headers_from-step bytes number count header h is =
    let left : count - number ≡ suc (count - (number + 1)) = omega arith in
    ap (headers_from bytes number) left ∙ ap (λ x. x ∷ headers_from bytes (number + 1) (count - (number + 1))) (sym is)

pub headers_passed : (bytes : List ℕ) (number count : ℕ) (header : ProgramHeader) (whole : Option ElfStop)
    → headers_from bytes number (count - number) ≡ header ∷ headers_from bytes (number + 1) (count - (number + 1))
    → first_failing (flat_map (program_header_tests (length bytes)) (headers_from bytes number (count - number))) ≡ whole
    → first_failing (program_header_tests (length bytes) header) ≡ None
    → first_failing (flat_map (program_header_tests (length bytes)) (headers_from bytes (number + 1) (count - (number + 1)))) ≡ whole
headers_passed bytes number count header whole step tested passed =
    let rest = flat_map (program_header_tests (length bytes)) (headers_from bytes (number + 1) (count - (number + 1))) in
    sym (first_failing-passed (program_header_tests (length bytes) header) rest passed)
    ∙ ap (λ headers. first_failing (flat_map (program_header_tests (length bytes)) headers)) (sym step) ∙ tested

pub headers_failed : (bytes : List ℕ) (number count : ℕ) (header : ProgramHeader) (whole : Option ElfStop) (stop : ElfStop)
    → headers_from bytes number (count - number) ≡ header ∷ headers_from bytes (number + 1) (count - (number + 1))
    → first_failing (flat_map (program_header_tests (length bytes)) (headers_from bytes number (count - number))) ≡ whole
    → IsRefusal (first_failing (program_header_tests (length bytes) header)) stop
    → IsRefusal whole stop
headers_failed bytes number count header whole stop step tested failed =
    let rest = flat_map (program_header_tests (length bytes)) (headers_from bytes (number + 1) (count - (number + 1))) in
    subst (λ o. IsRefusal o stop)
    (ap (λ headers. first_failing (flat_map (program_header_tests (length bytes)) headers)) (sym step) ∙ tested)
    (IsRefusal-failed (program_header_tests (length bytes) header) rest stop failed)

pub kept_more : (found : List ProgramHeader) (header : ProgramHeader) (headers whole : List ProgramHeader) → is_load header ≡ true
    → found ++ filter is_load (header ∷ headers) ≡ whole → (found ++ header ∷ []) ++ filter is_load headers ≡ whole
kept_more found header headers whole is kept =
    append_assoc found (header ∷ []) (filter is_load headers)
    ∙ ap (λ b. found ++ cond b (header ∷ filter is_load headers) (filter is_load headers)) (sym is) ∙ kept

pub kept_same : (found : List ProgramHeader) (header : ProgramHeader) (headers whole : List ProgramHeader) → is_load header ≡ false
    → found ++ filter is_load (header ∷ headers) ≡ whole → found ++ filter is_load headers ≡ whole
kept_same found header headers whole is kept =
    ap (λ b. found ++ cond b (header ∷ filter is_load headers) (filter is_load headers)) (sym is) ∙ kept

-- a segment that passes its tests is well formed, and its bytes lie in the file
pub passed_load : (len : ℕ) (header : ProgramHeader) → first_failing (program_header_tests len header) ≡ None → is_load header ≡ true
    → (is_well_formed header ≡ true) × (bytes_end header ≤ len)
passed_load len header passed is =
    let both = parts (is_dynamic header) (is_load header) (is_well_formed header) (nat_le (bytes_end header) len) _ _ _ is passed in
    (both.0, leb-true (bytes_end header) len both.1)
  where
    parts : (dynamic load formed fits : Bool) (a b c : ElfStop) → load ≡ true
        → cond (not dynamic) (cond (not load || formed) (cond (not load || fits) None (Some c)) (Some b)) (Some a) ≡ None
        → (formed ≡ true) × (fits ≡ true)
    parts true load formed fits a b c is h = cc
    parts false false formed fits a b c is h = cc
    parts false true false fits a b c is h = cc
    parts false true true false a b c is h = cc
    parts false true true true a b c is h = (refl, refl)
