use Rattle.std.proofs.Common.{◌≡◌, ◌+◌, ℕ, drop}
use Rattle.sx_rv_asm.specs.Labels.{place_in}
use Rattle.sx_rv_asm.specs.Layout.{size_of, place_from}
use Rattle.sx_rv_asm.proofs.assembly.place_labels.Given as goal

abbrev pub invariant-loop-k : goal.invariant-loop-k
invariant-loop-k l = record {
  sizes : l.address + size_of (drop l.k l.items) (drop l.k l.nears) ≡ size_of l.items l.nears;
  places : (q : ℕ) → place_from q l.address (place_in l.labels q) (drop l.k l.items) (drop l.k l.nears) ≡ place_from q 0 0 l.items l.nears;
}
