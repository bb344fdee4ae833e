use Rattle.std.proofs.Common.{rules}
use Rattle.sx_rv_isa.specs.Effects.{extend}
use Rattle.sx_rv_machine.proofs.memory.extended.Goals as goal

pub returns-then-signed : goal.returns-then-signed
unfolding extend
returns-then-signed g c = search rules
