-- The tests that a file has to pass before it is loaded, in their order.
use Rattle.std.specs.Prelude.{◌≡◌, ℕ, ◌+◌, ◌%◌, ◌^◌, min, max, Bool, not, ◌&&◌, ◌||◌, ◌==◌, nat_le, nat_lt, List, [], ◌∷◌, ◌++◌, length, take, drop, map, filter, flat_map, sum_by, Option, Some, None, Result, Ok, Err, if◌then◌else◌, bytes_eq}
use Rattle.std.specs.Int.{is_power_of_two}
use Rattle.sx_elf.specs.Fields.{e_type, e_machine, e_phentsize, e_phnum, table_end, program_headers}
use Rattle.sx_elf.specs.declared.program_header.ProgramHeader.{ProgramHeader}
use Rattle.sx_elf.specs.declared.elf_stop.ElfStop.{ElfStop}
use Rattle.sx_elf.specs.declared.elf_stop.ElfStop.TheVariants.{Short, BadMagic, BadClass, BadKind, BadMachine, BadTable, Dynamic, BadSegment, Overlapping, TooLarge, NoMemory}

-- a test, and the refusal where it fails
pub record Test : Type 0 where
  pub passes : Bool
  pub refusal : ElfStop

abbrev pub need : Bool → ElfStop → Test
need passes refusal = record { passes = passes; refusal = refusal }

-- the refusal of the first test that fails
abbrev pub first_failing : List Test → Option ElfStop
first_failing [] = None
first_failing (test ∷ tests) = if test.passes then first_failing tests else Some test.refusal

-- a 64-bit little-endian executable for RISC-V, with 1 to 64 program headers that lie in the file
abbrev pub file_header_tests : List ℕ → List Test
file_header_tests bytes =
    need (nat_le 64 (length bytes)) (Short 64)
    ∷ need (bytes_eq (take 4 bytes) (0x7F ∷ 0x45 ∷ 0x4C ∷ 0x46 ∷ [])) BadMagic
    ∷ need (bytes_eq (take 3 (drop 4 bytes)) (2 ∷ 1 ∷ 1 ∷ [])) BadClass
    ∷ need (e_type bytes == 2) BadKind
    ∷ need (e_machine bytes == 243) BadMachine
    ∷ need (e_phentsize bytes == 56 && nat_le 1 (e_phnum bytes) && nat_le (e_phnum bytes) 64) BadTable
    ∷ need (nat_le (table_end bytes) (length bytes)) (Short (table_end bytes))
    ∷ []

-- a segment that is loaded: PT_LOAD
abbrev pub is_load : ProgramHeader → Bool
is_load header = header.kind == 1

-- a segment for a dynamic linker: PT_DYNAMIC, PT_INTERP or PT_TLS
abbrev pub is_dynamic : ProgramHeader → Bool
is_dynamic header = header.kind == 2 || header.kind == 3 || header.kind == 7

-- the alignment is a power of two or 0, and above 1 the address and the offset agree by it
abbrev pub is_aligned : ProgramHeader → Bool
is_aligned header = (header.align == 0 || is_power_of_two header.align)
    && (nat_le header.align 1 || header.address % header.align == header.offset % header.align)

-- the bytes of the file fit the memory, which ends by 2^63
abbrev pub is_well_formed : ProgramHeader → Bool
is_well_formed header = nat_le header.file_size header.memory_size && is_aligned header && nat_le (header.address + header.memory_size) (2 ^ 63)

-- where its bytes end in the file
abbrev pub bytes_end : ProgramHeader → ℕ
bytes_end header = header.offset + header.file_size

-- of one program header, in a file of this length
abbrev pub program_header_tests : ℕ → ProgramHeader → List Test
program_header_tests file_length header =
    need (not (is_dynamic header)) (Dynamic header.number)
    ∷ need (not (is_load header) || is_well_formed header) (BadSegment header.number)
    ∷ need (not (is_load header) || nat_le (bytes_end header) file_length) (Short (bytes_end header))
    ∷ []

-- of all program headers
abbrev pub segment_tests : List ℕ → List Test
segment_tests bytes = flat_map (program_header_tests (length bytes)) (program_headers bytes)

-- the segments that are loaded
abbrev pub loads : List ℕ → List ProgramHeader
loads bytes = filter is_load (program_headers bytes)

-- where its memory ends
abbrev pub memory_end : ProgramHeader → ℕ
memory_end header = header.address + header.memory_size

-- the memory of both has a byte in common
abbrev pub shares_byte : ProgramHeader → ProgramHeader → Bool
shares_byte one other = nat_lt (max one.address other.address) (min (memory_end one) (memory_end other))

abbrev pub overlap_test : ProgramHeader → ProgramHeader → Test
overlap_test one other = need (not (shares_byte one other)) (Overlapping one.number other.number)

-- each segment with each later one
abbrev pub overlap_tests : List ProgramHeader → List Test
overlap_tests [] = []
overlap_tests (one ∷ others) = map (overlap_test one) others ++ overlap_tests others

-- the memory of all segments together
abbrev pub total_size : List ProgramHeader → ℕ
total_size segments = sum_by (λ header. header.memory_size) segments

-- the most memory that is loaded
abbrev pub memory_limit : ℕ
memory_limit = 268435456

abbrev pub size_tests : List ProgramHeader → List Test
size_tests segments = need (nat_le (total_size segments) memory_limit) (TooLarge (total_size segments)) ∷ []

-- all tests of a file
abbrev pub tests : List ℕ → List Test
tests bytes = file_header_tests bytes
    ++ segment_tests bytes
    ++ overlap_tests (loads bytes)
    ++ size_tests (loads bytes)

-- why a file is refused, if it is
unfoldable pub first_fault : List ℕ → Option ElfStop
first_fault bytes = first_failing (tests bytes)

-- a call refuses by the first test that fails, but for want of memory
abbrev pub IsRefusal : Option ElfStop → ElfStop → Type 0
IsRefusal fault NoMemory = Unit {0}
IsRefusal fault stop = fault ≡ Some stop

-- a call succeeds exactly where no test fails, if memory allows
abbrev pub IsAnswer : {T : Type 0} → Option ElfStop → Result T ElfStop → Type 0
IsAnswer fault (Ok value) = fault ≡ None
IsAnswer fault (Err stop) = IsRefusal fault stop
