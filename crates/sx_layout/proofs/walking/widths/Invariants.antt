use Rattle.std.proofs.Common.{ℕ, ◌<◌, []}
use Rattle.sx_layout.specs.Walking.{IsWalk, StandsAt}
use Rattle.sx_layout.specs.declared.walking.Progress.TheVariants.{Unseen}
use Rattle.sx_layout.proofs.walking.widths.Given as goal

abbrev pub invariant-loop-root : goal.invariant-loop-root
invariant-loop-root l = IsWalk l.structures l.progress.items [] × ((k : ℕ) → k < l.root → ¬ StandsAt l.progress.items k Unseen)
