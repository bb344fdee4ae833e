use Rattle.std.proofs.Common.{◌≡◌, ◌≤◌, ◌+◌, length}
use Rattle.sx_bodies.specs.Literals.{mention_words, total}
use Rattle.sx_check_decl.proofs.captures.words_with.Given as goal

abbrev pub invariant-mentions : goal.invariant-mentions
invariant-mentions l = record {
  whole : l.sum + total (mention_words l.types) l.mentions ≡ l.words + total (mention_words l.types) l.fn.mentions;
  few : l.sum ≤ 65536;
}

abbrev pub decreases-mentions : goal.decreases-mentions
decreases-mentions l = length l.mentions
