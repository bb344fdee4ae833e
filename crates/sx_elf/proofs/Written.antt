-- A file that was written passes every test, and loads the code and zeros.
use Rattle.std.proofs.Common.{◌≡◌, ℕ, ◌+◌, ◌≤◌, ◌^◌, min, max, Bool, true, false, not, ◌||◌, cond, nat_le, nat_lt, List, [], ◌∷◌, ◌++◌, length, take, drop, map, filter, flat_map, Some, None, refl, sym, ap, ◌∙◌, arith, length-append}
use Rattle.std.specs.Int.{from_le_bytes, to_le_bytes, w64}
use Rattle.std.proofs.lemmas.Nat.{from_le_bytes-to_le_bytes_8}
use Rattle.std.proofs.lemmas.Bool.{le-leb, le-ltb, and_from, or_right, not_from_false}
use Rattle.std.proofs.Math.Seq.{drop-append_seam, take-length}
use Rattle.sx_elf.specs.declared.program_header.ProgramHeader.{ProgramHeader}
use Rattle.sx_elf.specs.declared.elf_stop.ElfStop.{ElfStop}
use Rattle.sx_elf.specs.declared.elf_stop.ElfStop.TheVariants.{Short, TooLarge, Overlapping}
use Rattle.sx_elf.specs.AddressMap.{code_start, data_start, memory_size}
use Rattle.sx_elf.specs.Fields.{program_headers}
use Rattle.sx_elf.specs.Tests.{first_failing, first_fault, file_header_tests, program_header_tests, segment_tests, overlap_tests, size_tests, loads, is_dynamic, is_load, is_well_formed, bytes_end, total_size, memory_limit}
use Rattle.sx_elf.specs.Loading.{Part, Loaded, part_of, loaded}
use Rattle.sx_elf.specs.Layout.{file_of, code_header, data_header, padding, loaded_of}
use Rattle.sx_elf.proofs.Failing.{first_failing-passed}
use Rattle.sx_elf.proofs.Passing.{nowhere}

length-padding : length padding ≡ 3920
unfolding padding
length-padding = refl

length-file_of : (code : List ℕ) (words : ℕ) → length (file_of code words) ≡ 4096 + length code
length-file_of code words = let e = length-append padding code in let f = length-padding in omega arith

-- the code stands behind the padding
code-drop : (code : List ℕ) (words : ℕ) → drop 4096 (file_of code words) ≡ code
code-drop code words = ap (λ n. drop n (padding ++ code)) (sym length-padding) ∙ drop-append_seam padding code

-- the two program headers are read as they were written
headers-file_of : (code : List ℕ) (words : ℕ) → length code ≤ 138739712 → words ≤ 4259840
    → program_headers (file_of code words) ≡ code_header (length code) ∷ data_header words ∷ []
headers-file_of code words long few =
    let len : from_le_bytes w64 (to_le_bytes w64 (length code)) ≡ length code = from_le_bytes-to_le_bytes_8 (length code) (omega arith) in
    let size : from_le_bytes w64 (to_le_bytes w64 (memory_size words)) ≡ memory_size words = from_le_bytes-to_le_bytes_8 (memory_size words) (omega arith) in
    ap (λ n. code_header n ∷ data_header_of (from_le_bytes w64 (to_le_bytes w64 (memory_size words))) ∷ []) len
    ∙ ap (λ n. code_header (length code) ∷ data_header_of n ∷ []) size
  where
    data_header_of : ℕ → ProgramHeader
    data_header_of size = record {
      number = 1;
      kind = 1;
      flags = 6;
      offset = 0;
      address = data_start;
      file_size = 0;
      memory_size = size;
      align = 0x1000;
    }

loads-file_of : (code : List ℕ) (words : ℕ) → length code ≤ 138739712 → words ≤ 4259840
    → loads (file_of code words) ≡ code_header (length code) ∷ data_header words ∷ []
loads-file_of code words long few = ap (filter is_load) (headers-file_of code words long few)

-- the file header
header_passes : (code : List ℕ) (words : ℕ) → first_failing (file_header_tests (file_of code words)) ≡ None
header_passes code words =
    let len = length-file_of code words in
    both (nat_le 64 (length (file_of code words))) (nat_le 176 (length (file_of code words))) (Short 64) (Short 176)
    (le-leb 64 (length (file_of code words)) (omega arith)) (le-leb 176 (length (file_of code words)) (omega arith))
  where
    both : (a b : Bool) (x y : ElfStop) → a ≡ true → b ≡ true → cond a (cond b None (Some y)) (Some x) ≡ None
    both a b x y p q = ap (λ c. cond c (cond b None (Some y)) (Some x)) p ∙ ap (λ c. cond c None (Some y)) q

-- a segment that is well formed, whose bytes lie in the file
load_passes : (len : ℕ) (header : ProgramHeader) → is_dynamic header ≡ false → is_well_formed header ≡ true → bytes_end header ≤ len
    → first_failing (program_header_tests len header) ≡ None
load_passes len header static formed within =
    all (not (is_dynamic header)) (not (is_load header) || is_well_formed header) (not (is_load header) || nat_le (bytes_end header) len) _ _ _
    (not_from_false (is_dynamic header) static) (or_right (not (is_load header)) (is_well_formed header) formed)
    (or_right (not (is_load header)) (nat_le (bytes_end header) len) (le-leb (bytes_end header) len within))
  where
    all : (a b c : Bool) (x y z : ElfStop) → a ≡ true → b ≡ true → c ≡ true → cond a (cond b (cond c None (Some z)) (Some y)) (Some x) ≡ None
    all a b c x y z p q r =
        ap (λ t. cond t (cond b (cond c None (Some z)) (Some y)) (Some x)) p
        ∙ ap (λ t. cond t (cond c None (Some z)) (Some y)) q ∙ ap (λ t. cond t None (Some z)) r

code_formed : (len : ℕ) → len ≤ 138739712 → is_well_formed (code_header len) ≡ true
unfolding lib.Count.ones
code_formed len h = and_from _ _ (and_from (nat_le len len) true (le-leb len len (omega arith)) refl) (le-leb (code_start + len) (2 ^ 63) (omega arith))

data_formed : (words : ℕ) → words ≤ 4259840 → is_well_formed (data_header words) ≡ true
unfolding lib.Count.ones
data_formed words h = and_from _ _ (and_from (nat_le 0 (memory_size words)) true (le-leb 0 (memory_size words) (omega arith)) refl) (le-leb (data_start + memory_size words) (2 ^ 63) (omega arith))

segments_pass : (code : List ℕ) (words : ℕ) → length code ≤ 138739712 → words ≤ 4259840
    → first_failing (segment_tests (file_of code words)) ≡ None
segments_pass code words long few =
    let file = file_of code words in
    let len = length-file_of code words in
    let one = load_passes (length file) (code_header (length code)) refl (code_formed (length code) long) (omega arith) in
    let other = load_passes (length file) (data_header words) refl (data_formed words few) (omega arith) in
    ap (λ headers. first_failing (flat_map (program_header_tests (length file)) headers)) (headers-file_of code words long few)
    ∙ first_failing-passed (program_header_tests (length file) (code_header (length code))) (program_header_tests (length file) (data_header words) ++ []) one
    ∙ first_failing-passed (program_header_tests (length file) (data_header words)) [] other

overlaps_pass : (code : List ℕ) (words : ℕ) → length code ≤ 138739712 → words ≤ 4259840
    → first_failing (overlap_tests (loads (file_of code words))) ≡ None
overlaps_pass code words long few =
    let end = code_start + length code in
    let data_end = data_start + memory_size words in
    let apart : nat_lt (max code_start data_start) (min end data_end) ≡ false = le-ltb (max code_start data_start) (min end data_end) (omega arith) in
    ap (λ segments. first_failing (overlap_tests segments)) (loads-file_of code words long few)
    ∙ ap (λ b. cond (not b) None (Some (Overlapping 0 1))) apart

size_passes : (code : List ℕ) (words : ℕ) → length code ≤ 138739712 → words ≤ 4259840
    → first_failing (size_tests (loads (file_of code words))) ≡ None
size_passes code words long few =
    let total = total_size (code_header (length code) ∷ data_header words ∷ []) in
    let small : nat_le total memory_limit ≡ true = le-leb total memory_limit (omega arith) in
    ap (λ segments. first_failing (size_tests segments)) (loads-file_of code words long few)
    ∙ ap (λ b. cond b None (Some (TooLarge total))) small

pub passes-file_of : (code : List ℕ) (words : ℕ) → length code ≤ 138739712 → words ≤ 4259840 → first_fault (file_of code words) ≡ None
passes-file_of code words long few = nowhere (file_of code words) (record {
  header = header_passes code words;
  segments = segments_pass code words long few;
  overlaps = overlaps_pass code words long few;
  size = size_passes code words long few;
})

-- the code's part
code_part : (code : List ℕ) (words : ℕ) → take (length code) (drop 4096 (file_of code words)) ≡ code
code_part code words = ap (take (length code)) (code-drop code words) ∙ take-length code

pub loaded-file_of : (code : List ℕ) (words : ℕ) → length code ≤ 138739712 → words ≤ 4259840 → loaded (file_of code words) ≡ loaded_of code words
unfolding loaded
loaded-file_of code words long few =
    ap (λ (segments : List ProgramHeader). entered (map (part_of (file_of code words)) segments)) (loads-file_of code words long few)
    ∙ ap (λ (bytes : List ℕ). entered (record { start = code_start; flags = 5; bytes = bytes; size = length code }
    ∷ record { start = data_start; flags = 6; bytes = []; size = memory_size words } ∷ [])) (code_part code words)
  where
    entered : List Part → Loaded
    entered parts = record { entry = code_start; parts = parts }
