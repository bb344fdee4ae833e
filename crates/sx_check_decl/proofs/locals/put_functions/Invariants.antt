use Rattle.std.proofs.Common.{◌≡◌, ◌++◌, drop, map}
use Rattle.sx_check_decl.specs.Locals.{all, function_variables}
use Rattle.sx_check_decl.proofs.locals.put_functions.Given as goal

abbrev pub invariant-loop-function : goal.invariant-loop-function
invariant-loop-function l = l.variables.items ++ all (map function_variables (drop l.function-index l.functions)) ≡ l.fn.variables.items ++ all (map function_variables l.functions)
