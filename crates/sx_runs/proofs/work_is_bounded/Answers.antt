use Rattle.sx_runs.proofs.Laws.{steps_bound, not_ended}
use Rattle.sx_runs.proofs.work_is_bounded.Goals as goal

pub returns : goal.returns
returns g c = record { bound = steps_bound; not_ended = not_ended }
