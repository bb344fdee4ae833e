use Rattle.std.proofs.Common.{◌≡◌, ◌++◌, map, drop}
use Rattle.sx_elf.specs.Loading.{part_of, parts_in}
use Rattle.sx_elf.proofs.segments.segments.Given as goal

abbrev pub invariant-headers : goal.invariant-headers
invariant-headers l = parts_in l.segments.items ++ map (part_of l.bytes) (drop l.header-index l.headers) ≡ map (part_of l.bytes) l.headers
