use Rattle.std.proofs.Common.{◌≡◌, map, drop}
use Rattle.sx_typed.specs.Layers.{component_of}
use Rattle.sx_scope.specs.Paths as paths
use Rattle.sx_scope.proofs.paths.are_modifiable.Given as goal

abbrev pub invariant-turns : goal.invariant-turns
invariant-turns l = paths.all_modifiable (map component_of (drop l.component-index l.components)) ≡ paths.all_modifiable (map component_of l.components)
