-- What passes every test can be loaded.
use Rattle.std.proofs.Common.{◌≡◌, ℕ, suc, zero, ◌+◌, ◌*◌, ◌≤◌, ◌^◌, min, max, Bool, true, false, not, ◌&&◌, ◌==◌, cond, nat_le, List, [], ◌∷◌, length, drop, map, filter, flat_map, sum_by, All, AllPairs, None, refl, sym, ap, ◌∙◌, subst, arith, ⊎_elim}
use Rattle.std.proofs.lemmas.Bool.{leb-true, ltb-false, and_parts, cases_Bool, not-true}
use Rattle.std.proofs.lemmas.List.{length-map, length-take}
use Rattle.std.proofs.lemmas.List.Elements.{All-nil, All-cons}
use Rattle.std.proofs.lemmas.List.Kept.{AllPairs-cons}
use Rattle.std.proofs.lemmas.List.Sums.{sum_by-cons}
use Rattle.sx_elf.specs.declared.program_header.ProgramHeader.{ProgramHeader}
use Rattle.sx_elf.specs.declared.elf_stop.ElfStop.TheVariants.{NoMemory, TooLarge}
use Rattle.sx_elf.specs.Fields.{e_entry, e_phoff, e_phentsize, e_phnum, program_header, headers_from, program_headers}
use Rattle.sx_elf.specs.Tests.{need, first_failing, file_header_tests, program_header_tests, overlap_test, overlap_tests, loads, is_load, is_aligned, is_well_formed, shares_byte, memory_end, total_size, memory_limit}
use Rattle.sx_elf.specs.Loading.{Part, part_of, loaded, IsPlaced, IsApart, IsLoadable}
use Rattle.sx_elf.proofs.Failing.{test_passed, test_passed_at, both_passed}
use Rattle.sx_elf.proofs.Headers.{passed_load}
use Rattle.sx_elf.proofs.Passing.{IsPassed}

-- at most as many segments as program headers
few_from : (bytes : List ℕ) (number count : ℕ) → length (filter is_load (headers_from bytes number count)) ≤ count
few_from bytes number zero = omega arith
few_from bytes number (suc count) = at_most (is_load (program_header bytes number (e_phoff bytes + 56 * number))) _ _ count (few_from bytes (number + 1) count)
  where
    at_most : (b : Bool) (x : ProgramHeader) (xs : List ProgramHeader) (n : ℕ) → length xs ≤ n → length (cond b (x ∷ xs) xs) ≤ suc n
    at_most true x xs n h = omega arith
    at_most false x xs n h = omega arith

-- at most 64 program headers
few_headers : (bytes : List ℕ) → first_failing (file_header_tests bytes) ≡ None → e_phnum bytes ≤ 64
few_headers bytes h =
    let table : (e_phentsize bytes == 56 && nat_le 1 (e_phnum bytes) && nat_le (e_phnum bytes) 64) ≡ true =
    test_passed_at (file_header_tests bytes) 5 (need true NoMemory) (omega arith) h in
    leb-true (e_phnum bytes) 64 (and_parts (e_phentsize bytes == 56 && nat_le 1 (e_phnum bytes)) (nat_le (e_phnum bytes) 64) table).1

pub few_loads : (bytes : List ℕ) → first_failing (file_header_tests bytes) ≡ None → length (loads bytes) ≤ 64
few_loads bytes h = omega (arith, few_from bytes 0 (e_phnum bytes), few_headers bytes h)

-- a segment that is well formed has its place
placed_one : (bytes : List ℕ) (header : ProgramHeader) → is_well_formed header ≡ true → IsPlaced (part_of bytes header)
placed_one bytes header h =
    let ends = and_parts (nat_le header.file_size header.memory_size && is_aligned header) (nat_le (header.address + header.memory_size) (2 ^ 63)) h in
    let sizes = and_parts (nat_le header.file_size header.memory_size) (is_aligned header) ends.0 in
    let fits : header.file_size ≤ header.memory_size = leb-true _ _ sizes.0 in
    record {
      fits = omega (arith, length-take header.file_size (drop header.offset bytes));
      ends = leb-true _ _ ends.1;
    }

placed_all : (bytes : List ℕ) (headers : List ProgramHeader) → first_failing (flat_map (program_header_tests (length bytes)) headers) ≡ None
    → All IsPlaced (map (part_of bytes) (filter is_load headers))
placed_all bytes [] h = All-nil IsPlaced
placed_all bytes (header ∷ headers) h =
    let parts = both_passed (program_header_tests (length bytes) header) (flat_map (program_header_tests (length bytes)) headers) h in
    let rest = placed_all bytes headers parts.1 in
    ⊎_elim
    (λ (load : is_load header ≡ true).
    let formed = (passed_load (length bytes) header parts.0 load).0 in
    subst (λ b. All IsPlaced (map (part_of bytes) (cond b (header ∷ filter is_load headers) (filter is_load headers)))) (sym load)
    (All-cons IsPlaced (part_of bytes header) (map (part_of bytes) (filter is_load headers)) (placed_one bytes header formed) rest))
    (λ (other : is_load header ≡ false).
    subst (λ b. All IsPlaced (map (part_of bytes) (cond b (header ∷ filter is_load headers) (filter is_load headers)))) (sym other) rest)
    (cases_Bool (is_load header))

-- segments that pass their test of overlap are apart
apart_all : (bytes : List ℕ) (one : ProgramHeader) (others : List ProgramHeader) → first_failing (map (overlap_test one) others) ≡ None
    → All (IsApart (part_of bytes one)) (map (part_of bytes) others)
apart_all bytes one [] h = All-nil (IsApart (part_of bytes one))
apart_all bytes one (other ∷ others) h =
    let parts = test_passed (not (shares_byte one other)) (overlap_test one other).refusal (first_failing (map (overlap_test one) others)) h in
    let none : shares_byte one other ≡ false = not-true (shares_byte one other) parts.0 in
    All-cons (IsApart (part_of bytes one)) (part_of bytes other) (map (part_of bytes) others)
    (ltb-false (max one.address other.address) (min (memory_end one) (memory_end other)) none)
    (apart_all bytes one others parts.1)

apart_pairs : (bytes : List ℕ) (segments : List ProgramHeader) → first_failing (overlap_tests segments) ≡ None
    → AllPairs IsApart (map (part_of bytes) segments)
apart_pairs bytes [] h = λ i j d before within. absurd (omega arith)
apart_pairs bytes (one ∷ others) h =
    let parts = both_passed (map (overlap_test one) others) (overlap_tests others) h in
    AllPairs-cons IsApart (part_of bytes one) (map (part_of bytes) others) (apart_all bytes one others parts.0) (apart_pairs bytes others parts.1)

total-parts : (bytes : List ℕ) (segments : List ProgramHeader) → sum_by (λ (part : Part). part.size) (map (part_of bytes) segments) ≡ total_size segments
total-parts bytes [] = refl
total-parts bytes (one ∷ others) =
    sum_by-cons (λ (part : Part). part.size) (part_of bytes one) (map (part_of bytes) others)
    ∙ ap (λ n. one.memory_size + n) (total-parts bytes others)
    ∙ sym (sum_by-cons (λ (header : ProgramHeader). header.memory_size) one others)

pub loadable : (bytes : List ℕ) → IsPassed bytes → IsLoadable (loaded bytes)
unfolding loaded
loadable bytes p = record {
  few = omega (arith, length-map (loads bytes) (part_of bytes), few_loads bytes p.header);
  placed = placed_all bytes (program_headers bytes) p.segments;
  apart = apart_pairs bytes (loads bytes) p.overlaps;
  small = subst (λ n. n ≤ memory_limit) (sym (total-parts bytes (loads bytes))) (leb-true (total_size (loads bytes)) memory_limit (test_passed (nat_le (total_size (loads bytes)) memory_limit) (TooLarge (total_size (loads bytes))) None p.size).0);
}

pub loaded_by_parts : (bytes : List ℕ) (entry : ℕ) (parts : List Part) → entry ≡ e_entry bytes → parts ≡ map (part_of bytes) (loads bytes)
    → loaded bytes ≡ record { entry = entry; parts = parts }
unfolding loaded
loaded_by_parts bytes entry parts e p = cc
