-- The file that is written for an image: ELF-64, little-endian, for RISC-V, with two program headers.
use Rattle.std.specs.Prelude.{ℕ, List, [], ◌∷◌, ◌++◌, length, replicate}
use Rattle.std.specs.Int.{to_le_bytes, w16, w32, w64}
use Rattle.sx_elf.specs.AddressMap.{code_start, data_start, memory_size}
use Rattle.sx_elf.specs.Loading.{Loaded}
use Rattle.sx_elf.specs.declared.program_header.ProgramHeader.{ProgramHeader}

abbrev pub le16 : ℕ → List ℕ
le16 n = to_le_bytes w16 n

abbrev pub le32 : ℕ → List ℕ
le32 n = to_le_bytes w32 n

abbrev pub le64 : ℕ → List ℕ
le64 n = to_le_bytes w64 n

-- the magic bytes, 64 bits, little-endian, the format's version, and zeros
abbrev pub identification : List ℕ
identification = 0x7F ∷ 0x45 ∷ 0x4C ∷ 0x46 ∷ 2 ∷ 1 ∷ 1 ∷ 0 ∷ 0 ∷ 0 ∷ 0 ∷ 0 ∷ 0 ∷ 0 ∷ 0 ∷ 0 ∷ []

-- an executable for RISC-V (243), version 1; its entry, its program headers at 64, no section headers,
-- no flags; the sizes of the header and of a program header, two of these, and no section headers
abbrev pub file_header : List ℕ
file_header = identification
    ++ le16 2 ++ le16 243 ++ le32 1
    ++ le64 code_start ++ le64 64 ++ le64 0 ++ le32 0
    ++ le16 64 ++ le16 56 ++ le16 2 ++ le16 0 ++ le16 0 ++ le16 0

-- the bytes of a program header, whose physical address is its address
abbrev pub header_bytes : ProgramHeader → List ℕ
header_bytes header = le32 header.kind ++ le32 header.flags ++ le64 header.offset
    ++ le64 header.address ++ le64 header.address
    ++ le64 header.file_size ++ le64 header.memory_size ++ le64 header.align

-- the code, which is read and executed
abbrev pub code_header : ℕ → ProgramHeader
code_header len = record {
  number = 0;
  kind = 1;
  flags = 5;
  offset = 0x1000;
  address = code_start;
  file_size = len;
  memory_size = len;
  align = 0x1000;
}

-- zeros, which are read and written
abbrev pub data_header : ℕ → ProgramHeader
data_header words = record {
  number = 1;
  kind = 1;
  flags = 6;
  offset = 0;
  address = data_start;
  file_size = 0;
  memory_size = memory_size words;
  align = 0x1000;
}

-- bytes 176 to 4095
unfoldable pub padding : List ℕ
padding = replicate 3920 0

-- the file of some code and a number of words of globals
abbrev pub file_of : List ℕ → ℕ → List ℕ
file_of code words = file_header ++ header_bytes (code_header (length code)) ++ header_bytes (data_header words) ++ padding ++ code

-- what it loads
abbrev pub loaded_of : List ℕ → ℕ → Loaded
loaded_of code words = record {
  entry = code_start;
  parts = record { start = code_start; flags = 5; bytes = code; size = length code }
      ∷ record { start = data_start; flags = 6; bytes = []; size = memory_size words }
      ∷ [];
}
