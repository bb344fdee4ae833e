use Rattle.std.proofs.Common.{◌≡◌, take, map}
use Rattle.std.specs.List.{All}
use Rattle.sx_elf.specs.Loading.{parts_in, IsPlaced}
use Rattle.sx_rv_machine.specs.Load.{area_of}
use Rattle.sx_rv_machine.proofs.loading.areas_of.Given as goal

abbrev pub invariant-loop-segment : goal.invariant-loop-segment
invariant-loop-segment l = record {
  made : l.areas.items ≡ map area_of (parts_in (take l.segment-index l.segments));
  placed : All IsPlaced (parts_in l.segments);
}
