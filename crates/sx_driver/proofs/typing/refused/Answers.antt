use Rattle.sx_driver.proofs.Told.{told_stops}
use Rattle.sx_driver.proofs.typing.refused.Goals as goal

pub returns-in-Ok : goal.returns-in-Ok
returns-in-Ok c has checked =
    told_stops c.args.text.now c.args.tree.now c.args.stop c.in-Ok.fault c.refusal.result has checked c.in-Ok.ensures (c.refusal.ensures has.has.short)
