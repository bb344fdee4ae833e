-- What a file loads.
use Rattle.std.specs.Prelude.{ℕ, ◌+◌, ◌^◌, ◌≤◌, min, max, List, length, take, drop, map, sum_by, All, AllPairs}
use Rattle.sx_elf.specs.Fields.{e_entry}
use Rattle.sx_elf.specs.Tests.{loads, memory_limit}
use Rattle.sx_elf.specs.declared.program_header.ProgramHeader.{ProgramHeader}
use Rattle.sx_elf.specs.declared.loadable.Segment.{Segment}
use Rattle.sx_elf.specs.declared.loadable.Loadable.{Loadable}

-- memory from an address on: these bytes, and then zeros up to the size
pub record Part : Type 0 where
  pub start : ℕ
  pub flags : ℕ
  pub bytes : List ℕ
  pub size : ℕ

-- the address of the first instruction, and the memory
pub record Loaded : Type 0 where
  pub entry : ℕ
  pub parts : List Part

-- what a segment of a file loads
abbrev pub part_of : List ℕ → ProgramHeader → Part
part_of bytes header = record {
  start = header.address;
  flags = header.flags;
  bytes = take header.file_size (drop header.offset bytes);
  size = header.memory_size;
}

-- what a file loads
unfoldable pub loaded : List ℕ → Loaded
loaded bytes = record { entry = e_entry bytes; parts = map (part_of bytes) (loads bytes) }

-- what a value of the code stands for
abbrev pub part_in : Segment → Part
part_in segment = record { start = segment.start; flags = segment.flags; bytes = segment.bytes.items; size = segment.size }

abbrev pub parts_in : List Segment → List Part
parts_in segments = map part_in segments

abbrev pub view : Loadable → Loaded
view loadable = record { entry = loadable.entry; parts = parts_in loadable.segments.items }

-- the bytes fit the memory, which ends by 2^63
pub record IsPlaced (part : Part) : Type 0 where
  pub fits : length part.bytes ≤ part.size
  pub ends : part.start + part.size ≤ 2 ^ 63

-- no byte of memory belongs to both
abbrev pub IsApart : Part → Part → Type 0
IsApart one other = min (one.start + one.size) (other.start + other.size) ≤ max one.start other.start

-- memory that a machine can take
pub record IsLoadable (loaded : Loaded) : Type 0 where
  pub few : length loaded.parts ≤ 64
  pub placed : All IsPlaced loaded.parts
  pub apart : AllPairs IsApart loaded.parts
  pub small : sum_by (λ (part : Part). part.size) loaded.parts ≤ memory_limit
