use Rattle.sx_layout.specs.Walking.{IsWalk, StandsAt, StaySeen, left_to_do}
use Rattle.sx_layout.specs.declared.walking.Progress.TheVariants.{Unseen}
use Rattle.sx_layout.proofs.walking.walk.Given as goal

abbrev pub invariant-loop-sum : goal.invariant-loop-sum
invariant-loop-sum l = IsWalk l.structures l.progress l.stack.items × StaySeen l.fn.progress l.progress × (¬ StandsAt l.progress l.root Unseen)

abbrev pub decreases-loop-sum : goal.decreases-loop-sum
decreases-loop-sum l = left_to_do l.progress l.stack.items
