use Rattle.std.proofs.Common.{◌≡◌, ◌++◌, length}
use Rattle.sx_bodies.proofs.captures.push_all.Given as goal

abbrev pub invariant-mentions : goal.invariant-mentions
invariant-mentions l = l.mentions ++ l.more ≡ l.fn.mentions ++ l.fn.more

abbrev pub decreases-mentions : goal.decreases-mentions
decreases-mentions l = length l.more
