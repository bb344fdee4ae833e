-- The memory: areas of bytes with permissions (ELF-64 Object File Format, 'Program Header': PF_X, PF_W, PF_R).
-- Numbers lie in memory with the lowest byte first (RISC-V Unprivileged ISA, 'Memory': little-endian).
use Rattle.std.specs.Prelude.{ℕ, ◌+◌, ◌-◌, ◌/◌, ◌%◌, ◌==◌, ◌&&◌, nat_le, Bool, List, [], ◌∷◌, ◌++◌, length, take, drop, Option, Some, None, option_map, if◌then◌else◌}
use Rattle.std.specs.Int.{Width, w8, w16, w32, w64, from_le_bytes, to_le_bytes}

-- where an area starts, what may be done with it, and its bytes
pub record Area : Type 0 where
  pub start : ℕ
  pub flags : ℕ
  pub bytes : List ℕ

abbrev pub executable : ℕ
executable = 1

abbrev pub writable : ℕ
writable = 2

abbrev pub readable : ℕ
readable = 4

-- the bytes from `at` on, so many, lie in the area, and it has the permission
abbrev pub covers : Area → ℕ → ℕ → ℕ → Bool
covers a permission at count = ((a.flags / permission % 2) == 1) && (nat_le a.start at && nat_le (at + count) (a.start + length a.bytes))

-- a part of some bytes, and other bytes in its place
abbrev pub part : List ℕ → ℕ → ℕ → List ℕ
part bytes from count = take count (drop from bytes)

abbrev pub spliced : List ℕ → ℕ → List ℕ → List ℕ
spliced bytes from new = take from bytes ++ (new ++ drop (from + length new) bytes)

abbrev pub or_else : {A : Type 0} → Option A → Option A → Option A
or_else (Some x) other = Some x
or_else None other = other

abbrev pub area_part : Area → ℕ → ℕ → ℕ → Option (List ℕ)
area_part a permission at count = if covers a permission at count then Some (part a.bytes (at - a.start) count) else None

-- the bytes from an address on, where one area with the permission has them all
abbrev pub bytes_at : List Area → ℕ → ℕ → ℕ → Option (List ℕ)
bytes_at [] permission at count = None
bytes_at (a ∷ areas) permission at count = or_else (area_part a permission at count) (bytes_at areas permission at count)

abbrev pub area_with : Area → ℕ → List ℕ → Area
area_with a at new = record { start = a.start; flags = a.flags; bytes = spliced a.bytes (at - a.start) new }

-- the memory with other bytes from an address on, where one writable area has them all
abbrev pub with_bytes : List Area → ℕ → List ℕ → Option (List Area)
with_bytes [] at new = None
with_bytes (a ∷ areas) at new = if covers a writable at (length new) then Some (area_with a at new ∷ areas) else option_map (λ rest. a ∷ rest) (with_bytes areas at new)

-- a number of 1, 2, 4 or 8 bytes
abbrev pub width : ℕ → Width
width count = if count == 1 then w8 else (if count == 2 then w16 else (if count == 4 then w32 else w64))

abbrev pub number_of : ℕ → List ℕ → ℕ
number_of count bytes = from_le_bytes (width count) bytes

abbrev pub bytes_of : ℕ → ℕ → List ℕ
bytes_of count value = to_le_bytes (width count) value
