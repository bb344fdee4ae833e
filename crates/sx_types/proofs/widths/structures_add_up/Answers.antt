use Rattle.std.proofs.Common.{sym}
use Rattle.sx_types.specs.Words.{structure_within}
use Rattle.sx_types.proofs.Nesting.{number_is_enough}
use Rattle.sx_types.proofs.widths.structures_add_up.Goals as goal

pub returns : goal.returns
unfolding structure_within
returns c = λ structures k. sym (number_is_enough structures k)
