use Rattle.std.proofs.Common.{◌≡◌, ◌≤◌, ◌+◌, length}
use Rattle.sx_bodies.specs.Literals.{total, mention_words}
use Rattle.sx_bodies.proofs.widths.are_mentions_narrow.Given as goal

abbrev pub invariant-mentions : goal.invariant-mentions
invariant-mentions l = record {
  whole : l.words + total (mention_words l.types) l.mentions ≡ total (mention_words l.types) l.fn.mentions;
  narrow : l.words ≤ 1024;
}

abbrev pub decreases-mentions : goal.decreases-mentions
decreases-mentions l = length l.mentions
