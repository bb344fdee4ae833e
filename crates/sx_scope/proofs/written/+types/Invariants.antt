use Rattle.std.proofs.Common.{◌≡◌, ◌+◌, ◌*◌, [], max, map, drop}
use denote.Param.Weighed.{most}
use Rattle.sx_tree.specs.declared.written_types.WrittenType.{size-WrittenType}
use Rattle.sx_tree.specs.declared.written_types.TypeParameter.{size-TypeParameter}
use Rattle.sx_scope.specs.Verdict.{found, typed}
use Rattle.sx_scope.specs.WrittenTypes.{run_parameters, judged_parameter}
use Rattle.sx_scope.proofs.written.+types.Given as goal

abbrev pub invariant-parameters_written-turns : goal.invariant-parameters_written-turns
invariant-parameters_written-turns l =
    run_parameters (found l.all l.walk) (map (judged_parameter l.declarations) (drop l.parameter-index l.parameters)) ≡ run_parameters (typed [] l.initial.walk) (map (judged_parameter l.declarations) l.parameters)

abbrev pub decreases-type_written : goal.decreases-type_written
decreases-type_written l = 4 * size-WrittenType l.ty.now + 0

abbrev pub decreases-function_written : goal.decreases-function_written
decreases-function_written l = 4 * max (most (λ x. size-TypeParameter x) l.parameters.now) (size-WrittenType l.gives.now) + 3

abbrev pub decreases-parameters_written : goal.decreases-parameters_written
decreases-parameters_written l = 4 * (most (λ x. size-TypeParameter x) l.parameters.now) + 2

abbrev pub decreases-parameter_written : goal.decreases-parameter_written
decreases-parameter_written l = 4 * size-TypeParameter l.parameter.now + 1
