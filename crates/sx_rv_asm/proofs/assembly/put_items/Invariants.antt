use Rattle.std.proofs.Common.{◌≡◌, ◌+◌, ◌++◌, drop}
use Rattle.sx_rv_asm.specs.Labels.{place_in}
use Rattle.sx_rv_asm.specs.Layout.{size_of, code_from}
use Rattle.sx_rv_asm.proofs.assembly.put_items.Given as goal

abbrev pub invariant-loop-k : goal.invariant-loop-k
invariant-loop-k l = record {
  sizes : l.address + size_of (drop l.k l.items) (drop l.k l.nears) ≡ size_of l.items l.nears;
  bytes : l.code.items ++ code_from (place_in l.labels) l.address (drop l.k l.items) (drop l.k l.nears) ≡ code_from (place_in l.labels) 0 l.items l.nears;
}
