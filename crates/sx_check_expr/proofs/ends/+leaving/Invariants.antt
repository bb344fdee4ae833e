use Rattle.std.proofs.Common.{◌≡◌, drop}
use Rattle.sx_scope.specs.declared.declarations.Declarations.{Declarations}
use Rattle.sx_bodies.specs.Statements.{any_breaks}
use Rattle.sx_check_expr.specs.Judge.{judged_statements}
use Rattle.sx_check_expr.proofs.ends.+leaving.Given as goal

abbrev pub invariant-any_breaks-statements : goal.invariant-any_breaks-statements
invariant-any_breaks-statements l = (d : Declarations) → any_breaks (judged_statements d (drop l.statement-index l.statements)) ≡ any_breaks (judged_statements d l.statements)
