use Rattle.sx_layout.specs.Walking.{IsSum}
use Rattle.sx_layout.proofs.walking.add_up.Given as goal

abbrev pub invariant-loop-next : goal.invariant-loop-next
invariant-loop-next l = IsSum l.structures (record { structure = l.sum.structure; next = l.next; words = l.words })
