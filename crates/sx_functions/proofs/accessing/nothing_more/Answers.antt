use Rattle.std.proofs.Common.{ap}
use Rattle.sx_scope.specs.Verdict.{◌▷◌}
use Rattle.sx_functions.specs.Accessors.{nothing_more}
use Rattle.sx_functions.proofs.accessing.nothing_more.Goals as goal

pub returns-in-Typed : goal.returns-in-Typed
returns-in-Typed c = λ v w. ap (λ x. x ▷ nothing_more) (c.in-Typed.ensures v w)

pub returns-in-Untold : goal.returns-in-Untold
returns-in-Untold c = λ v w. ap (λ x. x ▷ nothing_more) (c.in-Untold.ensures v w)

pub returns-in-Depends : goal.returns-in-Depends
returns-in-Depends c = λ v w. ap (λ x. x ▷ nothing_more) (c.in-Depends.ensures v w)
