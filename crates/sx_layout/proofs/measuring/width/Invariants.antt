use Rattle.std.proofs.Common.{◌≡◌, ◌+◌, ◌*◌, ◌≤◌, drop, option_map}
use Rattle.sx_layout.specs.Measured.{words_together}
use Rattle.sx_layout.proofs.measuring.width.Given as goal

abbrev pub invariant-loop-field : goal.invariant-loop-field
invariant-loop-field l =
    (words_together l.structures l.stored ≡ option_map (λ rest. l.words + rest) (words_together l.structures (drop l.field-index l.stored))) × (l.words ≤ 1024 * l.field-index)
