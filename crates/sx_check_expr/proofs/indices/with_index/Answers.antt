use Rattle.std.proofs.Common.{ap, ◌∙◌}
use Rattle.sx_scope.specs.Verdict.{typed, ◌▷◌}
use Rattle.sx_calls.specs.Calls.{index_added}
use Rattle.sx_check_expr.proofs.indices.with_index.Goals as goal

pub returns-in_ok-index_added-in-Typed : goal.returns-in_ok-index_added-in-Typed
returns-in_ok-index_added-in-Typed c = λ d v w. ap (λ es. typed es w) (c.in_ok-index_added-in-Typed.ensures d) ∙ ap (λ x. x ▷ index_added d) (c.in-Typed.ensures v w)

pub returns-in-Untold : goal.returns-in-Untold
returns-in-Untold c = λ d v w. ap (λ x. x ▷ index_added d) (c.in-Untold.ensures v w)

pub returns-in-Depends : goal.returns-in-Depends
returns-in-Depends c = λ d v w. ap (λ x. x ▷ index_added d) (c.in-Depends.ensures v w)
