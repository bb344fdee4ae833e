use Rattle.sx_well_declared.proofs.Heads.{head-told, head-derived}
use Rattle.sx_well_declared.proofs.laws.heads_are_derived.Goals as goal

pub returns : goal.returns
returns c =
    record {
      sound = λ d l ps r w v hs t h. head-told d l ps r w hs t v h;
      complete = λ d l ps r w v hs t h. head-derived d l ps r w (hs, t) v h;
    }
