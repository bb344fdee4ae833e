use Rattle.std.proofs.Common.{◌∙◌, ap}
use Rattle.sx_rv_machine.specs.Load.{start_of}
use Rattle.swiftx.specs.Target.{start}
use Rattle.swiftx.proofs.building.machine_of.Goals as goal

pub returns-in-Ok-load : goal.returns-in-Ok-load
unfolding start
returns-in-Ok-load c = c.in-Ok-load.ensures ∙ ap start_of c.in-Ok.ensures.loaded
