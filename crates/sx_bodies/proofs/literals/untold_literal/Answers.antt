use Rattle.std.proofs.Common.{ap, sym}
use Rattle.sx_scope.specs.Verdict.{untold}
use Rattle.sx_scope.specs.Verdict.{unless_broken}
use Rattle.sx_bodies.proofs.Failing.{told}
use Rattle.sx_bodies.proofs.literals.untold_literal.Goals as goal

pub returns-in-Some : goal.returns-in-Some
returns-in-Some c = told _ _ _ _ (ap (λ o. unless_broken o c.args.node untold c.args.walk.now) (sym c.in-Some.ensures))
