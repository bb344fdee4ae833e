use Rattle.sx_runs.proofs.Laws.{performs_trans, performs_all_trans, performs_within_trans}
use Rattle.sx_runs.proofs.performs_composes.Goals as goal

pub returns : goal.returns
returns g c = record { outputs = performs_trans; events = performs_all_trans; cost = performs_within_trans }
