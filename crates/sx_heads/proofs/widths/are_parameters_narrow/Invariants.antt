use Rattle.std.proofs.Common.{◌≡◌, ◌≤◌, ◌+◌, length}
use Rattle.sx_bodies.specs.Literals.{total}
use Rattle.sx_heads.specs.Widths.{parameter_words}
use Rattle.sx_heads.proofs.widths.are_parameters_narrow.Given as goal

abbrev pub invariant-parameters : goal.invariant-parameters
invariant-parameters l = record {
  whole : l.words + total (parameter_words l.types) l.parameters ≡ l.before + total (parameter_words l.types) l.fn.parameters;
  narrow : l.words ≤ 1024;
}

abbrev pub decreases-parameters : goal.decreases-parameters
decreases-parameters l = length l.parameters
