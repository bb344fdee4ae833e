use Rattle.std.proofs.Common.{[], Some, ap}
use Rattle.sx_members.specs.declared.types.TypeFault.{TypeFault}
use Rattle.sx_members.specs.Members.{unfaulted}
use Rattle.sx_members.proofs.types.faulted.Goals as goal

pub returns-in-Wide : goal.returns-in-Wide
returns-in-Wide c = ([], c.args.walk.now, ap (λ (f : TypeFault). unfaulted (Some f) c.args.node c.args.walk.now) c.in-Wide.is)
