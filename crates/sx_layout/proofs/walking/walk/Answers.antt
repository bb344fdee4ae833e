use Rattle.sx_layout.specs.declared.walking.Sum.{Sum}
use Rattle.sx_layout.proofs.Walks.{started_walk, stay_open, root_seen}
use Rattle.sx_layout.proofs.walking.walk.Goals as goal

pub loop-sum-init : goal.loop-sum-init
loop-sum-init c =
    let first : Sum = record { structure = c.args.root; next = 0; words = 0 } in
    rw (c.in_ok-push.ensures.items, c.new-stack.ensures.items)
    (started_walk c.args.structures.now c.args.progress.now c.args.root c.requires.walk c.requires.root, stay_open c.args.progress.now c.args.root, root_seen c.args.progress.now c.args.root)
