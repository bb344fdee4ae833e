use Rattle.std.proofs.Common.{◌≡◌, map, length, filter}
use Rattle.sx_bodies.specs.Literals.{captured, first_of_each, is_outside, number_of_mention}
use Rattle.sx_bodies.proofs.captures.captured.Given as goal

abbrev pub invariant-mentions : goal.invariant-mentions
invariant-mentions l = record {
  whole : first_of_each l.captured (filter (is_outside l.node) l.mentions) ≡ captured l.node l.fn.mentions;
  seen : l.seen.keys ≡ map number_of_mention l.captured;
}

abbrev pub decreases-mentions : goal.decreases-mentions
decreases-mentions l = length l.mentions
