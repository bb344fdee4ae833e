use Rattle.sx_well_typed.specs.Claims.{Claim}
use Rattle.sx_well_typed.proofs.Sound.{sound}
use Rattle.sx_well_typed.proofs.Whole.{body-derives}
use Rattle.sx_well_typed.proofs.laws.typed_bodies_are_derived.Goals as goal

pub returns : goal.returns
returns c =
    record {
      sound = λ d ss p w v ts h. sound d (Claim.body ss p w ts v) h;
      complete = λ d ss p w v ts h. body-derives d ss p w ts v h;
    }
