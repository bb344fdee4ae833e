-- The fields of an executable, by the names and offsets of "ELF-64 Object File Format", sections
-- "ELF header" and "Program header".
use Rattle.std.specs.Prelude.{ℕ, ◌+◌, ◌*◌, zero, suc, List, [], ◌∷◌, take, drop}
use Rattle.std.specs.Int.{from_le_bytes, w16, w32, w64}
use Rattle.sx_elf.specs.declared.program_header.ProgramHeader.{ProgramHeader}

-- a number of 2, 4 or 8 bytes, the lowest first
abbrev pub half : List ℕ → ℕ → ℕ
half bytes at = from_le_bytes w16 (take 2 (drop at bytes))

abbrev pub word : List ℕ → ℕ → ℕ
word bytes at = from_le_bytes w32 (take 4 (drop at bytes))

abbrev pub xword : List ℕ → ℕ → ℕ
xword bytes at = from_le_bytes w64 (take 8 (drop at bytes))

-- what kind of file it is
abbrev pub e_type : List ℕ → ℕ
e_type bytes = half bytes 16

-- the machine it is for
abbrev pub e_machine : List ℕ → ℕ
e_machine bytes = half bytes 18

-- the address of the first instruction
abbrev pub e_entry : List ℕ → ℕ
e_entry bytes = xword bytes 24

-- the offset of the program headers
abbrev pub e_phoff : List ℕ → ℕ
e_phoff bytes = xword bytes 32

-- the size of each, and how many there are
abbrev pub e_phentsize : List ℕ → ℕ
e_phentsize bytes = half bytes 54

abbrev pub e_phnum : List ℕ → ℕ
e_phnum bytes = half bytes 56

-- where the program headers end
abbrev pub table_end : List ℕ → ℕ
table_end bytes = e_phoff bytes + 56 * e_phnum bytes

-- the program header of this number, which stands at an offset
abbrev pub program_header : List ℕ → ℕ → ℕ → ProgramHeader
program_header bytes number at = record {
  number = number;
  kind = word bytes at;
  flags = word bytes (at + 4);
  offset = xword bytes (at + 8);
  address = xword bytes (at + 16);
  file_size = xword bytes (at + 32);
  memory_size = xword bytes (at + 40);
  align = xword bytes (at + 48);
}

-- so many program headers from a number on
abbrev pub headers_from : List ℕ → ℕ → ℕ → List ProgramHeader
headers_from bytes number zero = []
headers_from bytes number (suc count) = program_header bytes number (e_phoff bytes + 56 * number) ∷ headers_from bytes (number + 1) count

-- the program headers
abbrev pub program_headers : List ℕ → List ProgramHeader
program_headers bytes = headers_from bytes 0 (e_phnum bytes)
