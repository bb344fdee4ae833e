use Rattle.std.proofs.Common.{◌≡◌, ◌-◌, ◌≤◌, ◌++◌, length, All, filter, flat_map}
use Rattle.sx_elf.specs.Fields.{e_phnum, headers_from}
use Rattle.sx_elf.specs.Tests.{first_failing, program_header_tests, segment_tests, is_load, loads, bytes_end}
use Rattle.sx_elf.proofs.segments.loads.Given as goal

-- the headers from this one on decide what all of them do
abbrev pub invariant-headers : goal.invariant-headers
invariant-headers l = record {
  tested : first_failing (flat_map (program_header_tests (length l.bytes)) (headers_from l.bytes l.number (e_phnum l.bytes - l.number)))
      ≡ first_failing (segment_tests l.bytes);
  kept : l.found.items ++ filter is_load (headers_from l.bytes l.number (e_phnum l.bytes - l.number)) ≡ loads l.bytes;
  within : All (λ header. bytes_end header ≤ length l.bytes) l.found.items;
}
