use Rattle.std.proofs.Common.{◌≡◌, drop, map, nat_eq}
use Rattle.indexmap.specs.IndexMap.{get}
use Rattle.sx_outline.specs.Visit.{counted, own_of, part_visit}
use Rattle.sx_outline.proofs.code.count_parts.Given as goal

abbrev pub invariant-turns : goal.invariant-turns
invariant-turns l = counted (own_of (map (part_visit (get nat_eq l.names)) (drop l.part-index l.parts))) l.visit ≡ counted (own_of (map (part_visit (get nat_eq l.names)) l.parts)) l.fn.visit
