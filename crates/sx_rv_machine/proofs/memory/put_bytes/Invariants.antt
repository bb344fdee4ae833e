use Rattle.std.proofs.Common.{◌≡◌, ◌++◌, take, drop, List}
use Rattle.std.specs.Prelude.{option_map}
use Rattle.sx_rv_machine.specs.Memory.{Area, with_bytes}
use Rattle.sx_rv_machine.proofs.memory.put_bytes.Given as goal

abbrev pub invariant-loop-index : goal.invariant-loop-index
invariant-loop-index l = record {
  same : l.areas ≡ l.fn.areas;
  passed : with_bytes l.areas l.address l.new ≡ option_map (λ (rest : List Area). take l.index l.areas ++ rest) (with_bytes (drop l.index l.areas) l.address l.new);
}
