use Rattle.std.proofs.Common.{◌∙◌, ap}
use Rattle.sx_rv_machine.specs.Load.{start_of}
use Rattle.swiftx.specs.Target.{start}
use Rattle.swiftx.proofs.executing.machine_of.Goals as goal

pub returns-in-Ok-clause-starts : goal.returns-in-Ok-clause-starts
unfolding start
returns-in-Ok-clause-starts c = c.in-Ok.ensures ∙ ap start_of c.in_ok-loadable.ensures.loaded
