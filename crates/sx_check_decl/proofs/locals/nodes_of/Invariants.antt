use Rattle.std.proofs.Common.{◌≡◌, ◌++◌, drop, map}
use Rattle.sx_check_decl.specs.Locals.{number}
use Rattle.sx_check_decl.proofs.locals.nodes_of.Given as goal

abbrev pub invariant-numbers : goal.invariant-numbers
invariant-numbers l = map number l.nodes ++ drop l.number-index l.numbers ≡ l.numbers
