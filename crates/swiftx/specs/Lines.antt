-- The lines that are written to the second output.
use Rattle.std.specs.Prelude.{ℕ, zero, suc, ◌+◌, ◌/◌, ◌%◌, List, [], ◌∷◌, ◌++◌, Option, Some, None, if◌then◌else◌, nat_lt, codes}
use Rattle.std.specs.Fmt.{decimal}
use Rattle.sx_elf.specs.declared.elf_stop.ElfStop.{ElfStop}
use Rattle.sx_elf.specs.declared.elf_stop.ElfStop.TheVariants.{Short, BadMagic, BadClass, BadKind, BadMachine, BadTable, Dynamic, BadSegment, Overlapping, TooLarge, NoMemory}
use Rattle.sx_rv_isa.specs.declared.faults.MachineKind.{MachineKind}
use Rattle.sx_rv_isa.specs.declared.faults.MachineKind.TheVariants.{FetchMisaligned, FetchOutside, Illegal, JumpMisaligned, LoadMisaligned, LoadOutside, StoreMisaligned, StoreOutside, Environment, Breakpoint}

unfoldable pub usage_line : List ℕ
usage_line = codes "usage: swiftx check FILE | build FILE -o OUT | run FILE [--steps N] | exec ELF [--steps N] | trace FILE [--steps N] | report FILE | chain FILE --at N | work N" ++ 10 ∷ []

unfoldable pub store_line : List ℕ
store_line = codes "store fault" ++ 10 ∷ []

-- Why an executable is refused, with numbers in decimal digits. Want of memory refuses no file.
unfoldable pub elf_line : ElfStop → Option (List ℕ)
elf_line (Short end) = Some (codes "elf short " ++ decimal end ++ 10 ∷ [])
elf_line BadMagic = Some (codes "elf bad-magic" ++ 10 ∷ [])
elf_line BadClass = Some (codes "elf bad-class" ++ 10 ∷ [])
elf_line BadKind = Some (codes "elf bad-kind" ++ 10 ∷ [])
elf_line BadMachine = Some (codes "elf bad-machine" ++ 10 ∷ [])
elf_line BadTable = Some (codes "elf bad-table" ++ 10 ∷ [])
elf_line (Dynamic header) = Some (codes "elf dynamic " ++ decimal header ++ 10 ∷ [])
elf_line (BadSegment header) = Some (codes "elf bad-segment " ++ decimal header ++ 10 ∷ [])
elf_line (Overlapping one other) = Some (codes "elf overlapping " ++ (decimal one ++ (codes " " ++ (decimal other ++ 10 ∷ []))))
elf_line (TooLarge size) = Some (codes "elf too-large " ++ decimal size ++ 10 ∷ [])
elf_line NoMemory = None

-- the word for a kind of fault
unfoldable pub kind_word : MachineKind → List ℕ
kind_word FetchMisaligned = codes "fetch-misaligned"
kind_word FetchOutside = codes "fetch-outside"
kind_word Illegal = codes "illegal"
kind_word JumpMisaligned = codes "jump-misaligned"
kind_word LoadMisaligned = codes "load-misaligned"
kind_word LoadOutside = codes "load-outside"
kind_word StoreMisaligned = codes "store-misaligned"
kind_word StoreOutside = codes "store-outside"
kind_word Environment = codes "environment"
kind_word Breakpoint = codes "breakpoint"

-- a hexadecimal digit: 0 to 9, and then a to f
abbrev pub hex_digit : ℕ → ℕ
hex_digit n = if nat_lt n 10 then 48 + n else 87 + n

-- the last so many hexadecimal digits of a number
unfoldable pub hex_digits : ℕ → ℕ → List ℕ
hex_digits zero n = []
hex_digits (suc count) n = hex_digits count (n / 16) ++ hex_digit (n % 16) ∷ []

-- what the machine could not do, and the address of the instruction in 16 hexadecimal digits
unfoldable pub fault_line : MachineKind → ℕ → List ℕ
fault_line kind pc = codes "machine fault " ++ kind_word kind ++ codes " at " ++ hex_digits 16 pc ++ 10 ∷ []
