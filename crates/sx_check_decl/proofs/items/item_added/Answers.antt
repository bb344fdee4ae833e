use Rattle.std.proofs.Common.{ap, ◌∙◌}
use Rattle.sx_scope.specs.Verdict.{typed, ◌▷◌}
use Rattle.sx_check_decl.specs.Items.{item_added}
use Rattle.sx_check_decl.proofs.items.item_added.Goals as goal

pub returns-in_ok-add_item-in-Typed : goal.returns-in_ok-add_item-in-Typed
returns-in_ok-add_item-in-Typed c = λ v w. ap (λ p. typed p w) c.in_ok-add_item-in-Typed.ensures ∙ ap (λ x. x ▷ item_added) (c.in-Typed.ensures v w)

pub returns-in-Untold : goal.returns-in-Untold
returns-in-Untold c = λ v w. ap (λ x. x ▷ item_added) (c.in-Untold.ensures v w)

pub returns-in-Depends : goal.returns-in-Depends
returns-in-Depends c = λ v w. ap (λ x. x ▷ item_added) (c.in-Depends.ensures v w)
