use Rattle.sx_late.specs.Mentions.{statement_mentions}
use Rattle.sx_late.specs.Walking.{IsWalk, left_to_do}
use Rattle.sx_late.proofs.reaching.reached.Given as goal

abbrev pub invariant-work : goal.invariant-work
invariant-work l = IsWalk l.typed (statement_mentions l.typed l.statement) l.declared l.seen.keys l.least l.work

abbrev pub decreases-work : goal.decreases-work
decreases-work l = left_to_do l.typed l.seen.keys l.work
