use Rattle.std.proofs.Common.{◌≡◌, ◌++◌, drop, length, reverse}
use Rattle.sx_layout.specs.Measured.{with_words}
use Rattle.sx_layout.proofs.measuring.write_words.Given as goal

abbrev pub invariant-loop-structure : goal.invariant-loop-structure
invariant-loop-structure l = l.structures ++ reverse l.reversed ≡ l.fn.structures

abbrev pub decreases-loop-structure : goal.decreases-loop-structure
decreases-loop-structure l = length l.structures

abbrev pub invariant-loop-words : goal.invariant-loop-words
invariant-loop-words l = l.structures ++ with_words (reverse l.reversed) (drop l.words-index l.widths) ≡ with_words l.fn.structures l.widths
