use Rattle.std.proofs.Common.{◌≡◌, [], Some, drop, map, nat_eq}
use Rattle.indexmap.specs.IndexMap.{get}
use Rattle.sx_outline.specs.Visit.{run_parameters, type_parameter_visit}
use Rattle.sx_outline.proofs.types.+types.Given as goal

abbrev pub invariant-visit_type_parameters-turns : goal.invariant-visit_type_parameters-turns
invariant-visit_type_parameters-turns l =
    run_parameters (map (type_parameter_visit (get nat_eq l.names)) (drop l.parameter-index l.parameters)) l.all l.visit ≡ run_parameters (map (type_parameter_visit (get nat_eq l.names)) l.parameters) (Some []) l.fn.visit
