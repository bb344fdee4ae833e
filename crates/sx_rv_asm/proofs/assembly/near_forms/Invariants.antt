use Rattle.std.proofs.Common.{◌≡◌, ◌+◌, ◌++◌, drop}
use Rattle.sx_rv_asm.specs.Labels.{place_in}
use Rattle.sx_rv_asm.specs.Layout.{size_of, nears_from, all_far}
use Rattle.sx_rv_asm.proofs.assembly.near_forms.Given as goal

abbrev pub invariant-loop-item : goal.invariant-loop-item
invariant-loop-item l = record {
  sizes : l.address + size_of (drop l.item-index l.items) (all_far (drop l.item-index l.items)) ≡ size_of l.items (all_far l.items);
  forms : l.nears.items ++ nears_from (place_in l.far) l.address (drop l.item-index l.items) ≡ nears_from (place_in l.far) 0 l.items;
}
