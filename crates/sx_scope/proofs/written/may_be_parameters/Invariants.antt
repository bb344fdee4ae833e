use Rattle.std.proofs.Common.{◌≡◌, drop}
use Rattle.sx_scope.specs.WrittenTypes as written
use Rattle.sx_scope.proofs.written.may_be_parameters.Given as goal

abbrev pub invariant-turns : goal.invariant-turns
invariant-turns l = written.may_be_parameters (drop l.parameter-index l.parameters) ≡ written.may_be_parameters l.parameters
