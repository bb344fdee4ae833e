use Rattle.std.proofs.Common.{ap, ◌∙◌}
use Rattle.sx_scope.specs.Verdict.{typed, ◌▷◌}
use Rattle.sx_members.specs.Members.{property_added}
use Rattle.sx_members.proofs.members.with_property.Goals as goal

pub returns-in_ok-property_added-in-Typed : goal.returns-in_ok-property_added-in-Typed
returns-in_ok-property_added-in-Typed c = λ v w. ap (λ ps. typed ps w) c.in_ok-property_added-in-Typed.ensures ∙ ap (λ x. x ▷ property_added) (c.in-Typed.ensures v w)

pub returns-in-Untold : goal.returns-in-Untold
returns-in-Untold c = λ v w. ap (λ x. x ▷ property_added) (c.in-Untold.ensures v w)

pub returns-in-Depends : goal.returns-in-Depends
returns-in-Depends c = λ v w. ap (λ x. x ▷ property_added) (c.in-Depends.ensures v w)
