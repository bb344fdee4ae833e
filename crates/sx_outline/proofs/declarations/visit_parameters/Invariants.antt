use Rattle.std.proofs.Common.{◌≡◌, [], Some, drop, map, nat_eq}
use Rattle.indexmap.specs.IndexMap.{get}
use Rattle.sx_outline.specs.Outline.{parameter_visit}
use Rattle.sx_outline.specs.Visit.{run_parameters}
use Rattle.sx_outline.proofs.declarations.visit_parameters.Given as goal

abbrev pub invariant-turns : goal.invariant-turns
invariant-turns l =
    run_parameters (map (parameter_visit (get nat_eq l.names)) (drop l.parameter-index l.parameters)) l.all l.visit ≡ run_parameters (map (parameter_visit (get nat_eq l.names)) l.parameters) (Some []) l.fn.visit
