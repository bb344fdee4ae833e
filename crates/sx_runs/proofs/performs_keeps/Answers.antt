use Rattle.sx_runs.proofs.Laws.{performs_refl, performs_from_all, performs_renamed, never_ends}
use Rattle.sx_runs.proofs.performs_keeps.Goals as goal

pub returns : goal.returns
returns g c = record {
  itself = performs_refl;
  without_events = performs_from_all;
  renamed = performs_renamed;
  never = λ A B e p. never_ends A B p e;
}
