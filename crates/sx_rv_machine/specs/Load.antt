-- The state in which the machine of a file starts.
use Rattle.std.specs.Prelude.{ℕ, ◌-◌, List, ◌++◌, map, length, replicate, None}
use Rattle.sx_elf.specs.Loading.{Part, Loaded}
use Rattle.sx_rv_machine.specs.Memory.{Area}
use Rattle.sx_rv_machine.specs.State.{State}

unfoldable pub zeros : ℕ → List ℕ
zeros count = replicate count 0

-- a segment's bytes, and zeros up to its size
abbrev pub area_of : Part → Area
area_of p = record { start = p.start; flags = p.flags; bytes = p.bytes ++ zeros (p.size - length p.bytes) }

-- all registers 0, pc the entry
abbrev pub start_of : Loaded → State
start_of l = record { registers = replicate 32 0; memory = map area_of l.parts; pc = l.entry; ending = None }
