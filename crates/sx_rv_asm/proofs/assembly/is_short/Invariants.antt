use Rattle.std.proofs.Common.{◌≡◌, ◌+◌, ◌<◌, ◌^◌, drop}
use Rattle.sx_rv_asm.specs.Layout.{size_of, all_far}
use Rattle.sx_rv_asm.proofs.assembly.is_short.Given as goal

abbrev pub invariant-loop-item : goal.invariant-loop-item
invariant-loop-item l = record {
  some : 0 < l.room;
  sizes : 2 ^ 30 + size_of (drop l.item-index l.items) (all_far (drop l.item-index l.items)) ≡ l.room + size_of l.items (all_far l.items);
}
